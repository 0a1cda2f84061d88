-- An answer shows which session was dropped before its request, and so all that it leads to. This project's own.
use Rattle.std.specs.Prelude.{◌≡◌, ◌<◌, ◌↔◌, ◌==◌, ◌&&◌, ℕ, List, [], ◌∷◌, slice_index, drop, if◌then◌else◌, Bool, true, Option, Some, None}
use Rattle.responder_machine.specs.History.{History, kept_of}
use Rattle.responder_machine.specs.May.{on_body, with_dropped}
use Rattle.responder_machine.specs.Responder.{Outcome, after, body_of, is_repeat}
use Rattle.responder_machine.specs.Session.{id_in_record, is_live, is_timed, session_of}
use Rattle.responder_machine.specs.Setup.{RspSetup}
use Rattle.spdm_grammar.specs.declared.names.response_code.TheConstants.{CHUNK_SEND_ACK, PSK_EXCHANGE_RSP}
use Rattle.spdm_machine.specs.Sessions.{id_in_exchange}
use Rattle.check_laws.specs.AnswersShown.{LeadsAt, values_shown_by}
use Rattle.capture_machine.specs.CapturedAnswers.{AnswersPlainly, belongs_to, is_plain}
use Rattle.capture_machine.specs.LargeAnswers.{judging}
use Rattle.capture_machine.specs.Rounds.{Dialogue, Round, no_draw}
use Rattle.spdm_grammar.specs.declared.names.message_type.TheConstants.{SPDM}

-- The session of this id is live and timed, so it may have been dropped without a trace.
abbrev pub may_be_dropped : History → ℕ → Bool
may_be_dropped h id = is_live (session_of id h) && is_timed (session_of id h)

-- ---- In the clear.

-- The id of the session that a response begins; none where it is not PSK_EXCHANGE_RSP.
abbrev pub id_begun : (response : List ℕ) → Option ℕ
id_begun response = if slice_index response 1 == PSK_EXCHANGE_RSP then Some (id_in_exchange response) else None

-- The response that stands in an acknowledgement; any other answer is the response itself.
abbrev pub response_of : (reply : List ℕ) → List ℕ
response_of reply = if slice_index reply 1 == CHUNK_SEND_ACK then drop 6 reply else reply

-- Only a session that may have been dropped is shown so.
abbrev pub dropped_for : History → Option ℕ → List ℕ
dropped_for h None = []
dropped_for h (Some id) = if may_be_dropped h id then id ∷ [] else []

-- PSK_EXCHANGE_RSP, no repeat, shows that the session of its id was dropped.
abbrev pub clear_drops : History → ℕ → (m reply : List ℕ) → List ℕ
clear_drops h tag m reply = if is_repeat (kept_of h) tag m then [] else dropped_for h (id_begun (response_of reply))

-- ---- In a session.

-- An answer in the clear to a record that belongs to its session shows that this was dropped.
abbrev pub record_drops : RspSetup → History → (request answer : List ℕ) → List ℕ
record_drops r h request answer =
    let id = id_in_record request in
    if slice_index answer 0 == SPDM && (belongs_to r (session_of id h) request && may_be_dropped h id) then id ∷ [] else []

-- ---- A body.

-- The sessions that an answer to a body shows as dropped.
unfoldable pub drops_shown_by : RspSetup → History → ℕ → (body answer : List ℕ) → List ℕ
drops_shown_by r h tag body answer =
    if slice_index body 0 == SPDM then clear_drops h tag (drop 1 body) (drop 1 answer) else record_drops r h (drop 1 body) answer

-- ---- The law.

-- What a body leads to at the drops and the values that an answer shows.
unfoldable pub outcome_shown : RspSetup → History → ℕ → (body answer : List ℕ) → Outcome
outcome_shown r h tag body answer =
    let g = with_dropped h (drops_shown_by r h tag body answer) in on_body r g tag body (values_shown_by r g tag body answer) no_draw

-- It is that answer, these values are allowed, and it brings no part of a large response that is judged otherwise.
abbrev pub IsShownAnswer : RspSetup → History → ℕ → (body answer : List ℕ) → Type 0
IsShownAnswer r h tag body answer =
    let g = with_dropped h (drops_shown_by r h tag body answer) in
    LeadsAt r g tag body (outcome_shown r h tag body answer) (values_shown_by r g tag body answer)
    × (is_plain h (outcome_shown r h tag body answer) ≡ true)
    × (body_of (outcome_shown r h tag body answer) ≡ answer)

-- An answer that goes whole may be given exactly when that is so, and the history after it is a function of what it
-- shows. The heartbeat period is a byte.
abbrev pub PlainIsShown : Type 0
PlainIsShown = (r : RspSetup) (d : Dialogue) (round : Round) (answer : List ℕ) (next : History) → r.beat < 256
    → let h = judging d.fetching round.body d.responder in
    AnswersPlainly r d round answer next
    ↔ (IsShownAnswer r h round.tag round.body answer
    × (next ≡ after (with_dropped d.responder (drops_shown_by r h round.tag round.body answer)) (outcome_shown r h round.tag round.body answer)))
