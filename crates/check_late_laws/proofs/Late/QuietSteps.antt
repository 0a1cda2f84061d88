-- An answer in a session by which no session begins is a step by which a change is taken: the requester accepts none by it.
use Rattle.std.proofs.Common.{◌≡◌, ◌==◌, ◌||◌, ℕ, zero, suc, List, [], ◌∷◌, refl, sym, ap, ◌∙◌, Bool, true, false, Option, Some, None, cond, eq-eqb, eqb-true}
use Rattle.std.specs.Prelude.{slice_index}
use Rattle.std.proofs.lemmas.Bool.{false≢true}
use Rattle.std.proofs.lemmas.Option.{none-some}
use Rattle.check_laws.specs.ChangeLaws.{accepted_by}
use Rattle.check_laws.specs.Changes.{IsStep, begun_between}
use Rattle.check_laws.specs.Keeping.{Kept, restored}
use Rattle.check_laws.specs.KeptChanges.{accepted_from}
use Rattle.check_laws.specs.RepliesShown.{no_values}
use Rattle.requester_machine.specs.Asking.Outcome.{Warns}
use Rattle.requester_machine.specs.Bodies.{body_fault, first_cause, is_clear, is_out_of_place, is_record, tests_of_body}
use Rattle.requester_machine.specs.Commands.{Free}
use Rattle.requester_machine.specs.Hearing.{hears, hears_by, hears_to, on_record, record_outcome}
use Rattle.requester_machine.specs.History.{History, outstanding}
use Rattle.requester_machine.specs.InnerMessages.{Came}
use Rattle.requester_machine.specs.Message.{Aim, Ask, Sent}
use Rattle.requester_machine.specs.Message.Aim.{Plain, ByChunks, ForChunk, InSession}
use Rattle.requester_machine.specs.Setup.{ReqSetup}
use Rattle.spdm_basis.specs.declared.causes.record_fault.RecordFault.{RecordFault}
use Rattle.spdm_grammar.specs.declared.told.event.ReqIgnored.{ReqIgnored}
use Rattle.spdm_machine.specs.Keys.{Draw}
use Rattle.capture_machine.specs.Capture.{IsBody}
use Rattle.capture_machine.specs.Rounds.{Dialogue, no_draw}
use Rattle.capture_machine.specs.SessionTable.{accepted_between, last_begun}

-- ---- Tests.

-- The test at this place in the list.
abbrev test_at : ℕ → List (Bool × ReqIgnored) → Bool
test_at i [] = false
test_at zero (t ∷ ts) = t.0
test_at (suc i) (t ∷ ts) = test_at i ts

fails : (b : Bool) (cause : ReqIgnored) (rest : Option ReqIgnored) → cond b (Some cause) rest ≡ None → (b ≡ false) × (rest ≡ None)
fails true cause rest is = absurd (none-some cause (sym is))
fails false cause rest is = (refl, is)

all_fail : (i : ℕ) (ts : List (Bool × ReqIgnored)) → first_cause ts ≡ None → test_at i ts ≡ false
all_fail i [] none = refl
all_fail zero (t ∷ ts) none = (fails t.0 t.1 (first_cause ts) none).0
all_fail (suc i) (t ∷ ts) none = all_fail i ts (fails t.0 t.1 (first_cause ts) none).1

-- ---- What the requester accepts.

module _ (q : ReqSetup) (h : History) (f : Free) (tag : ℕ) (body : List ℕ) (d : Draw) (sealed : is_record body ≡ true) where
  by_fault : (b : Bool) (n id : ℕ) (ask : Ask) (came : Came) (o : Option RecordFault) → accepted_by (cond b (Warns n) (record_outcome q h f tag ask came d o)) ≡ None
  by_fault true n id ask came o = refl
  by_fault false n id ask came (Some fault) = refl
  by_fault false n id ask came None = refl

  by_aim : (aim : Aim) → is_out_of_place aim body ≡ false → accepted_by (hears_to q h f tag body d aim) ≡ None
  unfolding on_record
  by_aim (Plain asked) none = absurd (false≢true (sym none ∙ sealed))
  by_aim (ByChunks asked handle number) none = absurd (false≢true (sym none ∙ sealed))
  by_aim (ForChunk asked handle number before) none = absurd (false≢true (sym none ∙ sealed))
  by_aim (InSession id ask) none = by_fault (is_clear body) _ id ask _ _

  in_place : (sent : Sent) → body_fault q (Some sent) false tag body ≡ None → is_out_of_place sent.aim body ≡ false
  unfolding body_fault
  in_place sent is = all_fail 4 (tests_of_body q (Some sent) false tag body) is

  by_cause : (o : Option Sent) (cause : Option ReqIgnored) → body_fault q o false tag body ≡ cause → accepted_by (hears_by q h f tag body d o cause) ≡ None
  by_cause o (Some cause) is = refl
  by_cause None None is = refl
  by_cause (Some sent) None is = by_aim sent.aim (in_place sent is)

  none_heard : accepted_by (hears q h false tag body f d) ≡ None
  unfolding hears
  none_heard = by_cause (outstanding h) (body_fault q (outstanding h) false tag body) refl

other_six : (n : ℕ) → (n == 5) ≡ false → (n == 5 || n == 6) ≡ true → n ≡ 6
other_six n none is = eqb-true n 6 (sym (ap (λ (b : Bool). b || n == 6) none) ∙ is)

-- By a record it accepts none.
pub none_accepted : (k : Kept) (tag : ℕ) (answer : List ℕ) → IsBody answer → (slice_index answer 0 == 5) ≡ false → accepted_from k tag answer ≡ None
unfolding accepted_from
none_accepted k tag answer typed sealed =
    none_heard k.setup (restored k).requester no_values tag answer no_draw (eq-eqb (slice_index answer 0) 6 (other_six (slice_index answer 0) sealed typed))

-- ---- The step.

not_begun : (b : Bool) (id : ℕ) → cond b (Some id) None ≡ None → b ≡ true → ⊥
not_begun true id none is = none-some id (sym none)
not_begun false id none is = false≢true is

pub quiet_step : (before after : Dialogue) → before.setup ≡ after.setup → begun_between before after ≡ None → accepted_between before after ≡ None → IsStep before after
quiet_step before after setup begun accepted = record {
  setup = setup;
  live = λ is. absurd (not_begun _ (last_begun after.responder) begun is);
  few = λ is. absurd (not_begun _ (last_begun after.responder) begun is);
  accepted = λ id takes. absurd (none-some id (sym accepted ∙ takes));
}
