-- What an answer makes of the marks of touched sessions, told from the history before it and the one after it. This
-- project's own.
use Rattle.std.specs.Prelude.{◌≡◌, ◌==◌, ◌&&◌, ◌||◌, not, if◌then◌else◌, ℕ, List, Bool, false, Some, drop, slice_index}
use Rattle.check_ends.specs.Conversation.{IsAnswer}
use Rattle.check_laws.specs.KeptChanges.{is_kept_record}
use Rattle.check_laws.specs.Walks.{StepsTo, Walks}
use Rattle.check_late_laws.specs.Late.Marking as marking
use Rattle.check_late_laws.specs.Late.Passed.{touched}
use Rattle.check_late_laws.specs.declared.late_fetch.marks.Marks.{Marks}
use Rattle.mctp_framing.specs.Cutting.{RouteFields}
use Rattle.requester_machine.specs.Setup.{ReqSetup}
use Rattle.responder_machine.specs.History.{History, kept_of}
use Rattle.responder_machine.specs.Responder.{is_repeat}
use Rattle.responder_machine.specs.Session.{id_in_record, is_live, session_of}
use Rattle.capture_machine.specs.Rounds.{Dialogue, Round}
use Rattle.world_machine.specs.Setup.{Configuration}
use Rattle.spdm_grammar.specs.declared.names.message_type.TheConstants.{SPDM}

-- A message in the clear was taken: it was no repeat before its answer, and is one after it.
abbrev pub is_taken_by : (before behind : History) → (tag : ℕ) → (m : List ℕ) → Bool
is_taken_by before behind tag m = not (is_repeat (kept_of before) tag m) && is_repeat (kept_of behind) tag m

-- A record touches its session: it is no repeat, and gets a record; or it gets an answer in the clear, and the session is gone.
abbrev pub is_touched_by : (before behind : History) → (request answer : List ℕ) → Bool
is_touched_by before behind request answer =
    let id = id_in_record request in
    if slice_index answer 0 == SPDM then is_live (session_of id before) && not (is_live (session_of id behind))
    else not (is_kept_record before request)

-- Whether the session of an id is touched after an answer.
abbrev pub touched_behind : (before behind : History) → (tag : ℕ) → (body answer : List ℕ) → (id : ℕ) → Bool
touched_behind before behind tag body answer id =
    if slice_index body 0 == SPDM then (if is_taken_by before behind tag (drop 1 body) then false else touched id before)
    else ((id_in_record (drop 1 body) == id && is_touched_by before behind (drop 1 body) answer) || touched id before)

-- The marks stand for the responder's history of each walk over the packets.
abbrev pub MarksStand : Marks → Configuration → ReqSetup → (older : List (List ℕ)) → Type 0
MarksStand seen w q older = (d : Dialogue) → Walks w q older d → marking.StandsFor seen d.responder

-- ---- The law.

-- In a walk that goes on with an answer, the sessions are touched after it as these histories tell.
abbrev pub AnswerMovesMarks : Type 0
AnswerMovesMarks = (w : Configuration) (q : ReqSetup) (older : List (List ℕ)) (packet : List ℕ) (route : RouteFields) (answer : List ℕ) (before after : Dialogue) (round : Round)
    → IsAnswer w q older packet route answer → Walks w q older before → StepsTo w q.eid older before packet after → before.round ≡ Some round
    → (id : ℕ) → touched id after.responder ≡ touched_behind before.responder after.responder round.tag round.body answer id
