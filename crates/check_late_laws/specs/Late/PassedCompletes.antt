-- The last chunk of a large response in the clear whose fetch began late, as a walk has it. This project's own.
use Rattle.std.specs.Prelude.{◌≡◌, ◌≢◌, ◌↔◌, ◌++◌, ℕ, List, ◌∷◌, true, false, Some, None}
use Rattle.check_late_laws.specs.Late.Passed.{StandsBack}
use Rattle.check_late_laws.specs.Late.PassedLast.{AreSince, IsFree, WasAnew, in_front, touched_by}
use Rattle.responder_machine.specs.History.{Entry, History}
use Rattle.responder_machine.specs.May.{with_dropped}
use Rattle.responder_machine.specs.Responder.Outcome.{Adds}
use Rattle.responder_machine.specs.Responder.{sent_by}
use Rattle.responder_machine.specs.Setup.{RspSetup}
use Rattle.capture_machine.specs.CapturedAnswers.{Completes, MayLeadTo, MayLeadToEntry}
use Rattle.capture_machine.specs.LargeAnswers.{gives_last, id_begun, judging, place_named}
use Rattle.capture_machine.specs.Rounds.{Dialogue, Round}

-- An answer is the last chunk of these bytes; the request may lead to them as the newest one under this tag, after
-- drops that they show, and no mark is set of the session that they begin; and after it the request and the drops stand
-- at their place.
pub record IsLateLast (r : RspSetup) (d : Dialogue) (round : Round) (answer : List ℕ) (next : History) (since : List Entry) (h : History) (s : StandsBack h) (whole : List ℕ) (other : ℕ) : Type 0 where
  pub dropped : List ℕ
  pub entry : Entry
  pub chunk : MayLeadTo r (judging d.fetching round.body d.responder) round.tag round.body (Adds entry)
  pub last : gives_last (judging d.fetching round.body d.responder) entry ≡ true
  pub led : MayLeadToEntry r dropped h (in_front h s other whole)
  pub untouched : touched_by (id_begun (in_front h s other whole)) h ≡ false
  pub sent : sent_by entry ≡ answer
  pub behind : next ≡ entry ∷ since ++ (s.behind ++ in_front h s s.tag whole ∷ with_dropped s.before dropped)

-- While these bytes stand for the large response of the request, and only messages in the clear came since its repeat,
-- an answer completes it exactly when that is so.
abbrev pub LateCompletes : Type 0
LateCompletes = (r : RspSetup) (d : Dialogue) (round : Round) (answer : List ℕ) (next : History) (since : List Entry) (h : History) (s : StandsBack h) (whole : List ℕ) (other : ℕ)
    → d.responder ≡ since ++ h → d.fetching ≡ Some whole → place_named round.body ≡ None → AreSince since → IsFree s.turn → WasAnew h s → other ≢ s.tag
    → Completes r d round answer next ↔ IsLateLast r d round answer next since h s whole other
