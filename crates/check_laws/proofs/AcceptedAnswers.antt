-- What a requester accepts by an answer.
use Rattle.std.proofs.Common.{◌≡◌, ◌∙◌, ◌+◌, ℕ, suc, List, [], ◌∷◌, Bool, true, false, cond, Option, Some, None, length, refl, ap, arith, lt-ltb}
use Rattle.std.specs.Prelude.{nat_lt}
use Rattle.std.proofs.lemmas.Bool.{le-ltb}
use Rattle.requester_machine.specs.Answers.{goes_on}
use Rattle.requester_machine.specs.Asking.{Outcome}
use Rattle.requester_machine.specs.Asking.Outcome.{Fails, Ignores, Warns, Resends, Adds}
use Rattle.requester_machine.specs.Bodies.{has_tag}
use Rattle.requester_machine.specs.History.{Entry, History, outstanding}
use Rattle.requester_machine.specs.History.Effect.{Nothing}
use Rattle.requester_machine.specs.History.Entry.{Told, TookClear, TookRecord}
use Rattle.requester_machine.specs.Message.{Aim, Sent}
use Rattle.requester_machine.specs.Message.Aim.{Plain, ByChunks, ForChunk, InSession}
use Rattle.requester_machine.specs.Shown.{after}
use Rattle.check_laws.specs.ChangeLaws.{AckAcceptsNone, AnswerAccepts, accepted_by}
use Rattle.capture_machine.specs.LargeRequests.{piece_with, with_ack_to, with_next_piece}
use Rattle.capture_machine.specs.Rounds.{no_draw}
use Rattle.capture_machine.specs.SessionTable.{accepted_in}

abbrev taken_in : History → History → Option ℕ
taken_in h next = cond (nat_lt (length h) (length next)) (accepted_in next) None

none_longer : (h : History) → taken_in h h ≡ None
none_longer h = ap (λ b. cond b (accepted_in h) None) (le-ltb (length h) (length h) (omega arith))

one_longer : (h : History) (e : Entry) → taken_in h (e ∷ h) ≡ accepted_in (e ∷ h)
one_longer h e = ap (λ b. cond b (accepted_in (e ∷ h)) None) (lt-ltb (length h) (suc (length h)) (omega arith))

alone : (h : History) (e : Entry) → accepted_in (e ∷ h) ≡ accepted_in (e ∷ [])
alone h (Told command sent d) = refl
alone h (TookClear tag m led d) = refl
alone h (TookRecord tag id sealed inner led d) = refl

outcome_taken : (h : History) (outcome : Outcome) → taken_in h (after h outcome) ≡ accepted_by outcome
outcome_taken h (Fails fault) = none_longer h
outcome_taken h (Ignores cause) = none_longer h
outcome_taken h (Warns code) = none_longer h
outcome_taken h (Resends sent) = none_longer h
outcome_taken h (Adds entry) = one_longer h entry ∙ alone h entry

pub answer_accepts : AnswerAccepts
answer_accepts d next outcome is = ap (taken_in d.requester) is ∙ outcome_taken d.requester outcome

piece_taken : (whole : List ℕ) (tag : ℕ) (m : List ℕ) (h : History) (aim : Aim) → taken_in h (with_next_piece whole tag m h aim) ≡ None
piece_taken whole tag m h (ByChunks asked handle number) = one_longer h (TookClear tag m (goes_on Nothing (piece_with h asked whole handle (number + 1))) no_draw)
piece_taken whole tag m h (Plain asked) = none_longer h
piece_taken whole tag m h (ForChunk asked handle number before) = none_longer h
piece_taken whole tag m h (InSession id ask) = none_longer h

ack_taken : (whole : List ℕ) (tag : ℕ) (m : List ℕ) (h : History) (o : Option Sent) → taken_in h (with_ack_to whole tag m h o) ≡ None
ack_taken whole tag m h None = none_longer h
ack_taken whole tag m h (Some sent) = piece_taken whole tag m h sent.aim

tagged_taken : (whole : List ℕ) (tag : ℕ) (m : List ℕ) (h : History) (b : Bool) → taken_in h (cond b (with_ack_to whole tag m h (outstanding h)) h) ≡ None
tagged_taken whole tag m h true = ack_taken whole tag m h (outstanding h)
tagged_taken whole tag m h false = none_longer h

pub ack_accepts_none : AckAcceptsNone
ack_accepts_none d next whole tag m is = ap (taken_in d.requester) is ∙ tagged_taken whole tag m d.requester (has_tag (outstanding d.requester) tag)
