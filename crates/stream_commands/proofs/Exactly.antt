-- Where nothing fails, what is answered is an answer to the end of the input, of which there is one.
use Rattle.std.proofs.Common.{◌≡◌, ◌⊎◌, inl, inr, ℕ, List, refl, sym, subst, arith, Some, Result, Ok, Err}
use Rattle.boot_keeper.specs.declared.boot_fault.BootFault.{BootFault}
use Rattle.boot_keeper.specs.declared.boot_fault.BootFault.TheVariants.{KeeperFault, Spent}
use Rattle.frame_stream.specs.Frames.{Ending}
use Rattle.frame_stream.specs.Frames.Ending.{Bad, Done, TooLong}
use Rattle.script_text.specs.Reading.{BadLine}
use Rattle.spdm_basis.specs.Stream.{HasFault, IsQuiet}
use Rattle.stream_commands.specs.InputEnds.{InputEnd}
use Rattle.stream_commands.specs.InputEnds.InputEnd.{BadText, InStream, LongText}
use Rattle.stream_commands.specs.Kept.{HasNoBoot, InNextLife, IsKeptAnswerOf, KeeperState, KeptAnswers}
use Rattle.stream_commands.specs.Outside.{IsAnswerOf, Outside, StreamCommand}
use Rattle.stream_commands.specs.declared.fault.StreamFault.{StreamFault}
use Rattle.stream_commands.specs.declared.fault.StreamFault.TheVariants as fault
use Rattle.stream_commands.specs.declared.kept_fault.KeptFault.{KeptFault}
use Rattle.stream_commands.specs.declared.kept_fault.KeptFault.TheVariants.{Boot, Stream}

-- no count shows a fault
not_quiet : {G : Type 0} (before after : ℕ) → IsQuiet before after → HasFault before after → G
not_quiet before after quiet (inl rose) = absurd (let same = quiet.0 in omega (arith, same, rose))
not_quiet before after quiet (inr last) = absurd (let low = quiet.1 in omega (arith, low, last))

-- How the inputs of a command end, each in one way, and what is answered to each end.
pub record HasExactEnds (A : Type 0) (command : StreamCommand A) (Ends : (input : List ℕ) → InputEnd → Type 0) (Answers : InputEnd → Result A StreamFault → Type 0) : Type 0 where
  pub one : (input : List ℕ) (e d : InputEnd) → Ends input e → Ends input d → e ≡ d
  pub long : (input : List ℕ) → command.text.long (Some input) → Ends input LongText
  pub bad : (bad : BadLine) (input : List ℕ) → command.text.bad bad (Some input) → Ends input (BadText bad)
  pub good : (input : List ℕ) → command.text.good (Some input) → (end : InputEnd) → Ends input end → (ending : Ending) × (end ≡ InStream ending)
  pub whole : (boot : ℕ) (before after : Outside) (input : List ℕ) (ending : Ending) → before.left ≡ Some input → command.whole boot before after ending → Ends input (InStream ending)
  pub done : (boot : ℕ) (before after : Outside) (input : List ℕ) (answer : A) → before.left ≡ Some input → command.done boot before after answer → Ends input (InStream Done)
  pub to_long : Answers LongText (Err fault.TooLong)
  pub to_bad : (bad : BadLine) → Answers (BadText bad) (Err (fault.BadScript bad.line bad.fault))
  pub to_done : (answer : A) → Answers (InStream Done) (Ok answer)
  pub to_bad_frame : (at : ℕ) → Answers (InStream (Bad at)) (Err (fault.BadFrame at))
  pub to_long_stream : Answers (InStream TooLong) (Err fault.TooLong)

module _ (A : Type 0) (command : StreamCommand A) (Ends : (input : List ℕ) → InputEnd → Type 0) (Answers : InputEnd → Result A StreamFault → Type 0) (exact : HasExactEnds A command Ends Answers)
    (before after : Outside) (input : List ℕ) (left : before.left ≡ Some input)
    (read : IsQuiet before.read_faults after.read_faults) (written : IsQuiet before.write_faults after.write_faults) (seeded : IsQuiet before.seed_faults after.seed_faults) where
  long_end : command.text.long before.left → Ends input LongText
  long_end long = exact.long input (subst command.text.long left long)

  bad_end : (bad : BadLine) → command.text.bad bad before.left → Ends input (BadText bad)
  bad_end bad is = exact.bad bad input (subst (command.text.bad bad) left is)

  -- ---- Without a keeper: what was answered is allocation failure, or an answer to an end of the input.

  answer_is : (boot : ℕ) (result : Result A StreamFault) → IsAnswerOf command boot before after result →
      (result ≡ Err fault.OutOfMemory) ⊎ ((end : InputEnd) × Ends input end × Answers end result)
  answer_is boot (Ok answer) is = inr (InStream Done, exact.done boot before after input answer left is.0, exact.to_done answer)
  answer_is boot (Err fault.ReadFault) is = not_quiet before.read_faults after.read_faults read is.0
  answer_is boot (Err fault.WriteFault) is = not_quiet before.write_faults after.write_faults written is.0
  answer_is boot (Err fault.SeedFault) is = not_quiet before.seed_faults after.seed_faults seeded is.0
  answer_is boot (Err fault.TooLong) (inl long) = inr (LongText, long_end long.0, exact.to_long)
  answer_is boot (Err fault.TooLong) (inr whole) = inr (InStream TooLong, exact.whole boot before after input TooLong left whole, exact.to_long_stream)
  answer_is boot (Err (fault.BadFrame at)) is = inr (InStream (Bad at), exact.whole boot before after input (Bad at) left is, exact.to_bad_frame at)
  answer_is boot (Err (fault.BadScript line f)) is =
      let bad : BadLine = record { line = line; fault = f } in
      inr (BadText bad, bad_end bad is.0, exact.to_bad bad)
  answer_is boot (Err fault.OutOfMemory) is = inl refl

  pub exactly : (boot : ℕ) (end : InputEnd) (result : Result A StreamFault) → Ends input end → IsAnswerOf command boot before after result →
      (result ≡ Err fault.OutOfMemory) ⊎ Answers end result
  exactly boot end result has is = by_answer (answer_is boot result is)
    where
      by_answer : (result ≡ Err fault.OutOfMemory) ⊎ ((e : InputEnd) × Ends input e × Answers e result) → (result ≡ Err fault.OutOfMemory) ⊎ Answers end result
      by_answer (inl none) = inl none
      by_answer (inr own) = inr (subst (λ (e : InputEnd). Answers e result) (exact.one input own.0 end own.1 has) own.2)

  -- ---- In the life of the next boot of a keeper: the device decides too.

  module _ (found kept : KeeperState) (device : List ℕ) (holds : found.held ≡ Some device) (quiet : IsQuiet found.faults kept.faults) (end : InputEnd) (ends : Ends input end) where
    at_end : (e : InputEnd) (result : Result A KeptFault) → Ends input e → KeptAnswers Answers device e result → KeptAnswers Answers device end result
    at_end e result its is = subst (λ (d : InputEnd). KeptAnswers Answers device d result) (exact.one input e end its ends) is

    -- the stream ends so
    whole_kept : (ending : Ending) (f : StreamFault) → Answers (InStream ending) (Err f) → InNextLife (λ boot. command.whole boot before after ending) found kept → KeptAnswers Answers device end (Err (Stream f))
    whole_kept ending f answers s =
        let booted = s.next.next device holds in
        at_end (InStream ending) (Err (Stream f)) (exact.whole s.boot before after input ending left s.is) (inl (booted.2.0, (Err f, refl, answers)))

    done_kept : (answer : A) → InNextLife (λ boot. command.done boot before after answer) found kept → KeptAnswers Answers device end (Ok answer)
    done_kept answer s =
        let booted = s.next.next device holds in
        at_end (InStream Done) (Ok answer) (exact.done s.boot before after input answer left s.is) (inl (booted.2.0, (Ok answer, refl, exact.to_done answer)))

    no_boot : (none : BootFault) → HasNoBoot command.text found kept before after none → KeptAnswers Answers device end (Err (Boot none))
    no_boot KeeperFault b = not_quiet found.faults kept.faults quiet b.cause
    no_boot Spent b =
        let next = b.next device holds in
        let own = exact.good input (subst command.text.good left b.seeded.good) end ends in
        subst (λ (d : InputEnd). KeptAnswers Answers device d (Err (Boot Spent))) (sym own.1) (inr (next.2.0, refl))

    pub kept_exactly : (result : Result A KeptFault) → IsKeptAnswerOf command found kept before after result → (result ≡ Err (Stream fault.OutOfMemory)) ⊎ KeptAnswers Answers device end result
    kept_exactly (Ok answer) is = inr (done_kept answer is.0)
    kept_exactly (Err (Boot none)) is = inr (no_boot none is)
    kept_exactly (Err (Stream fault.ReadFault)) is = not_quiet before.read_faults after.read_faults read is.0
    kept_exactly (Err (Stream fault.WriteFault)) is = not_quiet before.write_faults after.write_faults written is.0
    kept_exactly (Err (Stream fault.SeedFault)) is = not_quiet before.seed_faults after.seed_faults seeded is.0
    kept_exactly (Err (Stream fault.TooLong)) (inl long) = inr (at_end LongText (Err (Stream fault.TooLong)) (long_end long.0) (Err fault.TooLong, refl, exact.to_long))
    kept_exactly (Err (Stream fault.TooLong)) (inr whole) = inr (whole_kept TooLong fault.TooLong exact.to_long_stream whole)
    kept_exactly (Err (Stream (fault.BadFrame at))) is = inr (whole_kept (Bad at) (fault.BadFrame at) (exact.to_bad_frame at) is)
    kept_exactly (Err (Stream (fault.BadScript line f))) is =
        let bad : BadLine = record { line = line; fault = f } in
        inr (at_end (BadText bad) (Err (Stream (fault.BadScript line f))) (bad_end bad is.0) (Err (fault.BadScript line f), refl, exact.to_bad bad))
    kept_exactly (Err (Stream fault.OutOfMemory)) is = inl refl
