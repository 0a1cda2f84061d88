-- A message in the clear that a requester sent by itself on what it took last touches no session.
use Rattle.std.proofs.Common.{refl, ◌≡◌, ◌∙◌, ℕ, List, [], ◌∷◌, true, false, Option, Some, ap, sym}
use Rattle.std.specs.Prelude.{◌==◌, if◌then◌else◌}
use Rattle.std.proofs.lemmas.Bool.{false≢true}
use Rattle.requester_core.specs.Owed.{TookAny, TookFor, TookLast}
use Rattle.requester_machine.specs.Owed.{with_next}
use Rattle.requester_core.specs.OwnRecords.{is_in_session}
use Rattle.requester_machine.specs.Named.{names, session_named}
use Rattle.requester_machine.specs.History.{History, outstanding}
use Rattle.requester_machine.specs.History.Entry.{Told, TookClear, TookRecord}
use Rattle.requester_machine.specs.Message.{Aim, Ask, Content, Sent}
use Rattle.requester_machine.specs.Message.Aim.{ByChunks, ForChunk, InSession, Plain}
use Rattle.requester_machine.specs.Session.{Steps, after_clear, after_record, session_of, with_aim, with_sent}

aside : (i : ℕ) (aim : Aim) (content : Content) (s : Steps) → is_in_session aim ≡ false → with_aim i aim content s ≡ s
aside i (Plain asked) content s is = refl
aside i (ByChunks asked handle number) content s is = refl
aside i (ForChunk asked handle number before) content s is = refl
aside i (InSession id ask) content s is = absurd (false≢true (sym is))

pub clear_steps : (bare : History) (x : Sent) (i : ℕ) → TookAny bare → is_in_session x.aim ≡ false → session_of i (with_next (Some x) bare) ≡ session_of i bare
unfolding session_of
clear_steps [] x i took clear = absurd took
clear_steps (Told command sent d ∷ older) x i took clear = absurd took
clear_steps (TookClear tag m led d ∷ older) x i took clear =
    aside i x.aim x.content (after_clear i led.effect (session_of i older)) clear ∙ ap (λ (o : Option Sent). with_sent i o (after_clear i led.effect (session_of i older))) (sym took)
clear_steps (TookRecord tag of sealed inner led d ∷ older) x i took clear =
    ap (λ (s : Steps). if of == i then s else session_of i older)
    (aside i x.aim x.content (after_record sealed inner led.effect (session_of i older)) clear ∙ ap (λ (o : Option Sent). with_sent i o (after_record sealed inner led.effect (session_of i older))) (sym took))

named_of : (sealed : List ℕ) (a b c d : Steps) → Steps
named_of sealed a b c d = if names sealed a then a else (if names sealed b then b else (if names sealed c then c else (if names sealed d then d else [])))

pub clear_named : (bare : History) (x : Sent) (sealed : List ℕ) → TookAny bare → is_in_session x.aim ≡ false → session_named (with_next (Some x) bare) sealed ≡ session_named bare sealed
unfolding named_of
clear_named bare x sealed took clear = λ j. named_of sealed (clear_steps bare x 1 took clear j) (clear_steps bare x 2 took clear j) (clear_steps bare x 3 took clear j) (clear_steps bare x 4 took clear j)

-- ---- Which it is.

pub any_of : (bare : History) (aim : Aim) → TookFor bare aim → is_in_session aim ≡ false → TookAny bare
any_of bare (Plain asked) took is = took
any_of bare (ByChunks asked handle number) took is = took
any_of bare (ForChunk asked handle number before) took is = took
any_of bare (InSession id ask) took is = absurd (false≢true (sym is))

-- Something is asked in a session.
pub record IsInSession (bare : History) (aim : Aim) : Type 0 where
  pub id : ℕ
  pub ask : Ask
  pub aims : aim ≡ InSession id ask
  pub took : TookLast bare id

pub in_session_of : (bare : History) (aim : Aim) → TookFor bare aim → is_in_session aim ≡ true → IsInSession bare aim
in_session_of bare (InSession id ask) took is = record { id = id; ask = ask; aims = refl; took = took }
in_session_of bare (Plain asked) took is = absurd (false≢true is)
in_session_of bare (ByChunks asked handle number) took is = absurd (false≢true is)
in_session_of bare (ForChunk asked handle number before) took is = absurd (false≢true is)

pub out_last : (bare : History) (aim : Aim) (x : Sent) → TookFor bare aim → outstanding (with_next (Some x) bare) ≡ Some x
out_last [] (Plain asked) x took = absurd took
out_last [] (ByChunks asked handle number) x took = absurd took
out_last [] (ForChunk asked handle number before) x took = absurd took
out_last [] (InSession id ask) x took = absurd took
out_last (Told command sent d ∷ older) (Plain asked) x took = absurd took
out_last (Told command sent d ∷ older) (ByChunks asked handle number) x took = absurd took
out_last (Told command sent d ∷ older) (ForChunk asked handle number before) x took = absurd took
out_last (Told command sent d ∷ older) (InSession id ask) x took = absurd took
out_last (TookClear tag m led d ∷ older) aim x took = refl
out_last (TookRecord tag of sealed inner led d ∷ older) aim x took = refl
