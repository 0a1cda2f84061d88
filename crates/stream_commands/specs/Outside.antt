-- What a command on a stream finds outside and leaves there, and what it answers. This project's own.
use Rattle.std.specs.Prelude.{◌≡◌, ◌⊎◌, ℕ, List, [], Option, Some, Result, Ok, Err}
use Rattle.frame_stream.specs.Frames.{Ending}
use Rattle.frame_stream.specs.Frames.Ending.{Bad, TooLong}
use Rattle.spdm_basis.specs.Stream.{GivesSeed, HasFault}
use Rattle.stream_commands.specs.Texts.{TextKind}
use Rattle.stream_commands.specs.declared.fault.StreamFault.{StreamFault}
use Rattle.stream_commands.specs.declared.fault.StreamFault.TheVariants as fault

-- What a call finds outside and what it leaves there: what the source has left, what the sink holds and which seeds are
-- left, where they tell it, and the counts of their faults.
pub record Outside : Type 0 where
  pub left : Option (List ℕ)
  pub holds : Option (List ℕ)
  pub seeds : Option (List (List ℕ))
  pub read_faults : ℕ
  pub write_faults : ℕ
  pub seed_faults : ℕ

abbrev pub outside : (left holds : Option (List ℕ)) → (seeds : Option (List (List ℕ))) → (read_faults write_faults seed_faults : ℕ) → Outside
outside left holds seeds read_faults write_faults seed_faults = record {
  left = left;
  holds = holds;
  seeds = seeds;
  read_faults = read_faults;
  write_faults = write_faults;
  seed_faults = seed_faults;
}

-- Nothing was written.
abbrev pub IsUnwritten : (before after : Outside) → Type 0
IsUnwritten before after = after.holds ≡ before.holds

-- Nothing was written, and no seed was taken.
abbrev pub IsUntouched : (before after : Outside) → Type 0
IsUntouched before after = IsUnwritten before after × (after.seeds ≡ before.seeds)

-- The text is good, and one seed was taken, and no other.
pub record IsSeeded (text : TextKind) (before after : Outside) : Type 0 where
  pub good : text.good before.left
  pub seed : List ℕ
  pub given : GivesSeed before.seeds seed after.seeds

-- No seed was taken, or the one of the end that was set up.
abbrev pub TookOneAtMost : TextKind → (before after : Outside) → Type 0
TookOneAtMost text before after = (after.seeds ≡ before.seeds) ⊎ IsSeeded text before after

-- ---- What is answered.

-- A command on a stream: its text, and what comes of its stream in the life of a boot number. `whole` says that what all
-- whole frames of the stream led to was written, and no more, and that the stream ends so after them; `part` that a prefix
-- of what its first frames led to was written; `done` that all was written of a stream which ends between two frames, and
-- that this is answered to it.
pub record StreamCommand (A : Type 0) : Type 1 where
  pub text : TextKind
  pub whole : (boot : ℕ) → (before after : Outside) → Ending → Type 0
  pub part : (boot : ℕ) → (before after : Outside) → Type 0
  pub done : (boot : ℕ) → (before after : Outside) → A → Type 0

-- The source has nothing left, where it tells that.
abbrev pub IsReadToEnd : (before after : Outside) → Type 0
IsReadToEnd before after = (input : List ℕ) → before.left ≡ Some input → after.left ≡ Some []

-- The cause of a fault, and what was written before it. Memory runs out only before the first frame.
abbrev pub IsCauseOf : {A : Type 0} → StreamCommand A → (boot : ℕ) → (before after : Outside) → StreamFault → Type 0
IsCauseOf command boot before after fault.ReadFault =
    HasFault before.read_faults after.read_faults × (IsUntouched before after ⊎ command.part boot before after)
IsCauseOf command boot before after fault.WriteFault =
    HasFault before.write_faults after.write_faults × command.part boot before after
IsCauseOf command boot before after fault.SeedFault =
    HasFault before.seed_faults after.seed_faults × command.text.good before.left × IsUntouched before after
IsCauseOf command boot before after fault.TooLong =
    (command.text.long before.left × IsUntouched before after) ⊎ command.whole boot before after TooLong
IsCauseOf command boot before after (fault.BadFrame at) = command.whole boot before after (Bad at)
IsCauseOf command boot before after (fault.BadScript line f) =
    command.text.bad (record { line = line; fault = f }) before.left × IsUntouched before after
IsCauseOf command boot before after fault.OutOfMemory =
    IsUnwritten before after × TookOneAtMost command.text before after

-- With `Ok` the stream was read to its end.
abbrev pub IsAnswerOf : {A : Type 0} → StreamCommand A → (boot : ℕ) → (before after : Outside) → Result A StreamFault → Type 0
IsAnswerOf command boot before after (Ok answer) = command.done boot before after answer × IsReadToEnd before after
IsAnswerOf command boot before after (Err fault) = IsCauseOf command boot before after fault

-- The same behind the text and the seed: what came of the stream.
abbrev pub IsFollowedBy : {A : Type 0} → StreamCommand A → (boot : ℕ) → (before after : Outside) → Result A StreamFault → Type 0
IsFollowedBy command boot before after (Ok answer) = command.done boot before after answer × IsReadToEnd before after
IsFollowedBy command boot before after (Err fault.ReadFault) =
    HasFault before.read_faults after.read_faults × command.part boot before after
IsFollowedBy command boot before after (Err fault.WriteFault) =
    HasFault before.write_faults after.write_faults × command.part boot before after
IsFollowedBy command boot before after (Err fault.TooLong) = command.whole boot before after TooLong
IsFollowedBy command boot before after (Err (fault.BadFrame at)) = command.whole boot before after (Bad at)
IsFollowedBy command boot before after (Err fault.OutOfMemory) = IsUnwritten before after
IsFollowedBy command boot before after (Err fault.SeedFault) = ⊥
IsFollowedBy command boot before after (Err (fault.BadScript line f)) = ⊥
