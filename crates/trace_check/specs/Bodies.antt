-- What is reported of a body that came whole, by the walks of its requester. This project's own.
use Rattle.std.specs.Prelude.{◌≡◌, ◌⊎◌, ℕ, List, Option, Some, None, Result, Ok, Err}
use Rattle.mctp_framing.specs.Cutting.{RouteFields}
use Rattle.mctp_framing.specs.Gathering.Gathered.{Whole}
use Rattle.requester_machine.specs.Setup.{ReqSetup}
use Rattle.spdm_grammar.specs.declared.told.why.Why as declared
use Rattle.check_ends.specs.Conversation.{NoneGoesOn}
use Rattle.check_laws.specs.Judged.{why_of}
use Rattle.check_laws.specs.Order.{answered_why, asked_why, round_of}
use Rattle.check_laws.specs.ReasonsEach.{IsAskedReason}
use Rattle.check_laws.specs.declared.verdict.Seen.{Seen}
use Rattle.check_fetched_ends.specs.MarkedEnds.{IsJudgedAnswer, StandsBehind}
use Rattle.check_fetched_ends.specs.declared.marked.MarkedEnds.{MarkedEnds}
use Rattle.capture_machine.specs.Difference.{Why}
use Rattle.capture_machine.specs.SessionTable.{Row}
use Rattle.world_machine.specs.Setup.{Configuration}

-- A reason as the program tells it, or none.
abbrev pub told_of : Option declared.Why → Option Why
told_of None = None
told_of (Some why) = Some (why_of why)

-- ---- A request.

-- The order refuses it for this reason.
abbrev pub IsAskedWrong : Configuration → ReqSetup → List (List ℕ) → RouteFields → (body : List ℕ) → Result Unit declared.Why → Type 0
IsAskedWrong w q older route body (Ok on) = ⊥
IsAskedWrong w q older route body (Err why) = asked_why (round_of w.responder.eid q.eid older) (Whole route body) ≡ Some (why_of why)

-- It is in order: it goes on in a walk; or no walk goes on with it, and then why.
abbrev pub IsRequestTold : Configuration → ReqSetup → List (List ℕ) → List Row → (packet : List ℕ) → RouteFields → (body : List ℕ)
    → Result Unit declared.Why → (new : MarkedEnds) → (table : List Seen) → Type 0
IsRequestTold w q older rows packet route body (Ok u) new table = StandsBehind new table w q older rows packet
IsRequestTold w q older rows packet route body (Err why) new table =
    NoneGoesOn w q older packet × IsAskedReason w q older (Whole route body) (why_of why)

-- It is reported so, or it is out of order, and this is the reason.
abbrev pub IsRequestJudged : Configuration → ReqSetup → List (List ℕ) → List Row → (packet : List ℕ) → RouteFields → (body : List ℕ)
    → Result Unit declared.Why → (new : MarkedEnds) → (table : List Seen) → Type 0
IsRequestJudged w q older rows packet route body result new table =
    IsRequestTold w q older rows packet route body result new table ⊎ IsAskedWrong w q older route body result

-- ---- An answer.

abbrev pub IsAnsweredWrong : Configuration → ReqSetup → List (List ℕ) → RouteFields → (answer : List ℕ) → Result Unit declared.Why → Type 0
IsAnsweredWrong w q older route answer (Ok on) = ⊥
IsAnsweredWrong w q older route answer (Err why) = answered_why (round_of w.responder.eid q.eid older) (Whole route answer) ≡ Some (why_of why)

-- The same of an answer.
abbrev pub IsAnswerJudged : Configuration → ReqSetup → List (List ℕ) → List Row → (packet : List ℕ) → RouteFields → (answer : List ℕ)
    → Result Unit declared.Why → (new : MarkedEnds) → (table : List Seen) → Type 0
IsAnswerJudged w q older rows packet route answer result new table =
    IsJudgedAnswer w q older rows packet route answer result new table ⊎ IsAnsweredWrong w q older route answer result
