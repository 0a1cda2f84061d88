-- What the step of an end comes to: a run of moves of its key, and what it keeps of its history.
use Rattle.std.proofs.Common.{◌≡◌, ℕ, ◌<◌, ◌≤◌, ◌+◌, ◌^◌, List, [], ◌∷◌, ◌++◌, length, Bool, false}
use Rattle.requester_machine.specs.Asking.{Outcome}
use Rattle.requester_machine.specs.Does as asking
use Rattle.requester_machine.specs.Does.{requester_asks, requester_hears}
use Rattle.requester_machine.specs.History as asked
use Rattle.requester_machine.specs.Message.{Command}
use Rattle.requester_machine.specs.RequesterLog as asked_log
use Rattle.requester_machine.specs.Shown as asked_shown
use Rattle.responder_machine.specs.Does as serving
use Rattle.responder_machine.specs.Does.{responder_does}
use Rattle.responder_machine.specs.History as served
use Rattle.responder_machine.specs.History.Entry.{Queued, Ticked}
use Rattle.spdm_machine.specs.Keys.{Draw}
use Rattle.responder_machine.specs.Responder as responder
use Rattle.responder_machine.specs.ResponderLog as served_log
use Rattle.responder_machine.specs.Setup.{RspSetup}
use Rattle.requester_machine.specs.Setup.{ReqSetup}
use Rattle.spdm_machine.specs.TagLog.{Log}
use Rattle.spdm_agreement.specs.Claims.{IsReached}
use Rattle.spdm_agreement.specs.Configured.{IsRequester, IsResponder}
use Rattle.spdm_agreement.specs.Marks.{Asked, Served, next_asked, next_served}
use Rattle.spdm_agreement.specs.Moves.{Move, State, IsRun}
use Rattle.spdm_agreement.specs.Reading.{Reading}
use Rattle.spdm_agreement.specs.Story.{Past, asked_from, served_from}
use Rattle.spdm_agreement.proofs.Requester.OpenSessions as requester_sessions
use Rattle.spdm_agreement.proofs.Delivery.Data.{AsksOpenly, ServesDuly}
use Rattle.spdm_agreement.proofs.Moves.Foreign.{AreOwn}
use Rattle.spdm_agreement.proofs.Messages.Beginnings.{reading_of}

-- Some moves of the ends of one key lead from one state to another.
abbrev pub OwnLeads : Reading → State → State → Type 0
OwnLeads r s z = (moves : List Move) × AreOwn moves × IsRun r moves s z

-- A draw of a stream: eight bytes hold its number, and it has 32 bytes.
pub record IsDraw (d : Draw) : Type 0 where
  pub number : d.number < 2 ^ 64
  pub bytes : length d.bytes ≡ 32

-- ---- The requester. What is kept of its history is left open.

-- What its history stands for, beside any marks of its responder.
abbrev pub asks_state : (prior : Past) → ReqSetup → asked.History → List Served → Log → State
asks_state prior q h served log = record { asked = asked_from prior q h; served = served; log = log }

-- What holds before a step.
pub record AskedReady (prior : Past) (Kept : ReqSetup → asked.History → Type 0) (q : ReqSetup) (h : asked.History) (served : List Served) (log : Log) (d : Draw) : Type 0 where
  pub setup : IsRequester q
  pub made : asking.IsMade q h
  pub kept : Kept q h
  pub reached : IsReached (reading_of q.psk) (asks_state prior q h served log)
  pub fresh : next_asked (asked_from prior q h) ≤ d.number
  pub draw : IsDraw d

-- What an outcome comes to: a run of moves; what is kept stays so where the new state is reached too; and a context
-- that goes out holds the number of a draw that is used up.
pub record AskedStep (prior : Past) (Kept : ReqSetup → asked.History → Type 0) (q : ReqSetup) (h : asked.History) (served : List Served) (log : Log) (body : List ℕ) (d : Draw) (o : Outcome) : Type 0 where
  pub leads : OwnLeads (reading_of q.psk) (asks_state prior q h served log) (asks_state prior q (asked_shown.after h o) served (asked_log.acts_of q h body o ++ log))
  pub keeps : IsReached (reading_of q.psk) (asks_state prior q (asked_shown.after h o) served (asked_log.acts_of q h body o ++ log)) → Kept q (asked_shown.after h o)
  pub draws : next_asked (asked_from prior q (asked_shown.after h o)) + asked.draws_of q h ≤ d.number + asked.draws_of q (asked_shown.after h o)

abbrev pub AsksWell : (prior : Past) → (Kept : ReqSetup → asked.History → Type 0) → Type 0
AsksWell prior Kept =
    (q : ReqSetup) (h : asked.History) (served : List Served) (log : Log) (command : Command) (d : Draw)
    → AskedReady prior Kept q h served log d → AskedStep prior Kept q h served log [] d (requester_asks false q h command d)

abbrev pub HearsWell : (prior : Past) → (Kept : ReqSetup → asked.History → Type 0) → Type 0
HearsWell prior Kept =
    (q : ReqSetup) (h : asked.History) (served : List Served) (log : Log) (owner : Bool) (tag : ℕ) (body : List ℕ) (d : Draw)
    → AskedReady prior Kept q h served log d → AskedStep prior Kept q h served log body d (requester_hears q h owner tag body d)

abbrev pub AskedStarts : (Kept : ReqSetup → asked.History → Type 0) → Type 0
AskedStarts Kept = (q : ReqSetup) → Kept q []

-- A history that a requester made is steady.
abbrev pub AskedSteady : Type 0
AskedSteady = (q : ReqSetup) (h : asked.History) → asking.IsMade q h → requester_sessions.IsSteady h

-- ---- The responder. What is kept of its history is left open.

abbrev pub serves_state : (prior : Past) → RspSetup → served.History → List Asked → Log → State
serves_state prior r h asked log = record { asked = asked; served = served_from prior r h; log = log }

pub record ServedReady (prior : Past) (Kept : RspSetup → served.History → Type 0) (r : RspSetup) (h : served.History) (asked : List Asked) (log : Log) (d : Draw) : Type 0 where
  pub setup : IsResponder r
  pub made : serving.IsMade r h
  pub kept : Kept r h
  pub reached : IsReached (reading_of r.psk) (serves_state prior r h asked log)
  pub fresh : next_served (reading_of r.psk) (served_from prior r h) ≤ d.number
  pub draw : IsDraw d

pub record ServedStep (prior : Past) (Kept : RspSetup → served.History → Type 0) (r : RspSetup) (h : served.History) (asked : List Asked) (log : Log) (body : List ℕ) (d : Draw) (o : responder.Outcome) : Type 0 where
  pub leads : OwnLeads (reading_of r.psk) (serves_state prior r h asked log) (serves_state prior r (responder.after h o) asked (served_log.acts_of r h body o ++ log))
  pub keeps : IsReached (reading_of r.psk) (serves_state prior r (responder.after h o) asked (served_log.acts_of r h body o ++ log)) → Kept r (responder.after h o)
  pub draws : next_served (reading_of r.psk) (served_from prior r (responder.after h o)) + served.draws_of h ≤ d.number + served.draws_of (responder.after h o)

abbrev pub DoesWell : (prior : Past) → (Kept : RspSetup → served.History → Type 0) → Type 0
DoesWell prior Kept =
    (r : RspSetup) (h : served.History) (asked : List Asked) (log : Log) (tag : ℕ) (body : List ℕ) (d : Draw)
    → ServedReady prior Kept r h asked log d → ServedStep prior Kept r h asked log body d (responder_does r h tag body d)

abbrev pub ServedStarts : (Kept : RspSetup → served.History → Type 0) → Type 0
ServedStarts Kept = (r : RspSetup) → Kept r []

-- Queued data and time leave no mark and make no tag.
abbrev pub Waits : (Kept : RspSetup → served.History → Type 0) → Type 0
Waits Kept =
    (r : RspSetup) (h : served.History) → serving.IsMade r h → Kept r h
    → ((bytes : List ℕ) → Kept r (Queued bytes ∷ h)) × ((seconds : ℕ) → Kept r (Ticked seconds ∷ h))

-- ---- Application data.

-- A requester asks with application data under a verified key alone, and a responder answers such a request with
-- application data.
abbrev pub KeepsOpenly : (prior : Past) → (Kept : ReqSetup → asked.History → Type 0) → Type 0
KeepsOpenly prior Kept = (q : ReqSetup) (h : asked.History) → Kept q h → AsksOpenly (asked_from prior q h)

abbrev pub KeepsDuly : (prior : Past) → (Kept : RspSetup → served.History → Type 0) → Type 0
KeepsDuly prior Kept = (r : RspSetup) (h : served.History) → Kept r h → ServesDuly (served_from prior r h)
