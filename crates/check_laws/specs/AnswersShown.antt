-- An answer shows the values that the responder chose for it. This project's own.
use Rattle.std.specs.Prelude.{◌≡◌, ◌<◌, ◌≤◌, ◌↔◌, ◌+◌, ◌-◌, ◌==◌, ◌&&◌, ◌||◌, not, ℕ, List, [], ◌++◌, length, slice_index, drop, take, if◌then◌else◌, Bool, true, false, Option, Some, None}
use Rattle.byteorder.specs.Endian.{little_number}
use Rattle.chunking.specs.Collecting.{joined_with, under_way}
use Rattle.key_schedule.specs.Purpose.{iv_of, key_of}
use Rattle.responder_machine.specs.Answer.{Free, answer_bytes, request_at}
use Rattle.responder_machine.specs.Handling.{chunk_in}
use Rattle.responder_machine.specs.History.{Entry, History}
use Rattle.responder_machine.specs.LargeMessages.{chunks_of}
use Rattle.responder_machine.specs.May.{IsAllowed, on_body, place_for}
use Rattle.responder_machine.specs.Place.{Place, clear_place, free_id, inside, place_terms, session_place}
use Rattle.responder_machine.specs.Records.{opened, reply_number, reply_purpose}
use Rattle.responder_machine.specs.Refusal.{bytes_round}
use Rattle.responder_machine.specs.Responder.{Outcome, body_of, sent_by}
use Rattle.responder_machine.specs.Responder.Outcome.{Adds}
use Rattle.responder_machine.specs.Session.{Events, id_in_record, session_of, session_terms}
use Rattle.responder_machine.specs.Setup.{RspSetup}
use Rattle.responder_machine.specs.Turn.{Turn}
use Rattle.secured_record.specs.Faults.{opened_text}
use Rattle.spdm_grammar.specs.Fields.{zeros}
use Rattle.spdm_grammar.specs.Message.{ChunkMessage, RequestMessage, ResponseMessage}
use Rattle.spdm_grammar.specs.Message.RequestMessage.{GetMeasurements, PskExchange}
use Rattle.spdm_grammar.specs.Message.ResponseMessage.{Measurements, PskExchangeRsp}
use Rattle.spdm_grammar.specs.Responses.{response_in}
use Rattle.spdm_grammar.specs.declared.names.TheConstants.{MAX_MESSAGE_SIZE}
use Rattle.spdm_grammar.specs.declared.names.error_number.TheConstants.{LARGE_RESPONSE, RESPONSE_TOO_LARGE}
use Rattle.spdm_grammar.specs.declared.names.response_code.TheConstants.{CHUNK_SEND_ACK, ERROR}
use Rattle.spdm_machine.specs.Terms.{hash_len}
use Rattle.capture_machine.specs.CapturedAnswers.{MayLeadTo, answer_to}
use Rattle.capture_machine.specs.LargeAnswers.{is_large, unseen}
use Rattle.capture_machine.specs.Opening.{turn_in}
use Rattle.capture_machine.specs.Rounds.{no_draw}
use Rattle.spdm_grammar.specs.declared.names.message_type.TheConstants.{SPDM}

-- The least values that a responder may choose at a place: the least free id, and the shortest of all else.
abbrev pub least_values : History → Place → Free
least_values h p = record {
  id = free_id h;
  context = zeros (hash_len (place_terms p));
  exchange_opaque = [];
  nonce = zeros 32;
  measured_opaque = [];
  handle = 0;
  reply = [];
  pad = [];
}

-- ---- One message at a place. What it does not show stays as it is in these values.

-- PSK_EXCHANGE asks for a summary of the measurements, of which there are two kinds.
abbrev pub asks_summary : Option RequestMessage → Bool
asks_summary (Some (PskExchange exchange)) = exchange.summary == 1 || exchange.summary == 255
asks_summary _ = false

-- The values in the fields of a response to a request.
abbrev pub with_fields : Free → Option RequestMessage → Option ResponseMessage → Free
with_fields f (Some (PskExchange exchange)) (Some (PskExchangeRsp rsp)) = record f { id = rsp.rsp_id; context = rsp.context; exchange_opaque = rsp.opaque }
with_fields f (Some (GetMeasurements op)) (Some (Measurements measured)) = record f { nonce = measured.nonce; measured_opaque = measured.opaque }
with_fields f _ _ = f

-- Values that make the answer to a request so many bytes longer.
abbrev pub lengthened : Free → Option RequestMessage → (more : ℕ) → Free
lengthened f (Some (PskExchange exchange)) more = record f { context = f.context ++ zeros more }
lengthened f (Some (GetMeasurements op)) more = record f { measured_opaque = f.measured_opaque ++ zeros more }
lengthened f _ more = f

-- The least length of an answer that goes by LargeResponse.
abbrev pub least_large : Place → ℕ
least_large p = (place_terms p).common.to_requester.transfer + 1 - bytes_round p.at

-- ERROR shows no values. ResponseTooLarge shows how long the answer was that they gave; and LargeResponse shows the handle,
-- and that the answer was long enough.
abbrev pub values_in_error : RspSetup → Place → List ℕ → Free → (response : List ℕ) → Free
values_in_error r p m f response =
    let code = slice_index response 2 in
    let asked = request_at p m in
    let least = length (answer_bytes r p m f) in
    if code == RESPONSE_TOO_LARGE then lengthened f asked (little_number 4 (drop 4 response) - least)
    else (if code == LARGE_RESPONSE then record (lengthened f asked (least_large p - least)) { handle = slice_index response 4 }
    else f)

-- The values that a response to a message shows.
abbrev pub values_in : RspSetup → Place → List ℕ → Free → (response : List ℕ) → Free
values_in r p m f response =
    if slice_index response 1 == ERROR then values_in_error r p m f response
    else with_fields f (request_at p m) (response_in (hash_len (place_terms p)) (asks_summary (request_at p m)) response)

-- ---- In the clear.

-- The last chunk of a large request is acknowledged with the response to that in it; any other shows nothing.
abbrev pub values_in_reply : RspSetup → Place → List ℕ → Free → (reply : List ℕ) → Option ChunkMessage → Free
values_in_reply r p m f reply None = values_in r p m f reply
values_in_reply r p m f reply (Some c) =
    if c.last && slice_index reply 1 == CHUNK_SEND_ACK then values_in r (inside p) (joined_with (under_way (chunks_of p.turns)) c) f (drop 6 reply)
    else f

-- The values that an answer in the clear shows.
abbrev pub clear_values : RspSetup → History → List ℕ → (reply : List ℕ) → Free
clear_values r h m reply = values_in_reply r (clear_place h) m (least_values h (clear_place h)) reply (chunk_in (request_at (clear_place h) m))

-- ---- In a session.

-- The text of a record that answers a turn: the length of its inner message, that message, and the padding.
abbrev pub answered_text : RspSetup → Events → Turn → (sealed : List ℕ) → List ℕ
answered_text r s t sealed =
    let choice = (session_terms s).choice in
    opened_text (key_of choice.hash choice.aead (reply_purpose r.psk s t)) (iv_of choice.hash (reply_purpose r.psk s t)) (reply_number s t) sealed

-- The values that an inner message shows which answers one: application data, or those of a response.
abbrev pub values_in_inner : RspSetup → Events → (request : List ℕ) → Free → (inner : List ℕ) → Free
values_in_inner r s request f inner =
    if slice_index inner 0 == 1 then record f { reply = drop 1 inner }
    else values_in r (session_place s) (drop 1 request) f (drop 1 inner)

-- The values that a text shows: the padding too.
abbrev pub values_in_text : RspSetup → Events → (request : List ℕ) → Free → (text : List ℕ) → Free
values_in_text r s request f text =
    values_in_inner r s request (record f { pad = drop (little_number 2 text) (drop 2 text) }) (take (little_number 2 text) (drop 2 text))

-- The values that a record shows which answers a record.
abbrev pub record_values : RspSetup → History → (request sealed : List ℕ) → Free
record_values r h request sealed =
    let s = session_of (id_in_record request) h in
    values_in_text r s (opened r.psk s request) (least_values h (session_place s)) (answered_text r s (turn_in r s request) sealed)

-- ---- A body.

-- Where nothing is added to the history, nothing was chosen.
abbrev pub values_for : RspSetup → History → (body answer : List ℕ) → Outcome → Free
values_for r h body answer (Adds entry) =
    if slice_index body 0 == SPDM then clear_values r h (drop 1 body) (drop 1 answer)
    else record_values r h (drop 1 body) (drop 1 answer)
values_for r h body answer _ = least_values h (place_for h body)

-- The values that an answer to a body shows. Whether something is added depends on no value.
unfoldable pub values_shown_by : RspSetup → History → ℕ → (body answer : List ℕ) → Free
values_shown_by r h tag body answer = values_for r h body answer (on_body r h tag body (least_values h (place_for h body)) no_draw)

-- ---- The laws.

-- A body leads to an outcome at these values, which are allowed.
abbrev pub LeadsAt : RspSetup → History → ℕ → List ℕ → Outcome → Free → Type 0
LeadsAt r h tag body outcome f =
    IsAllowed h (place_for h body) f × (length (answer_to r h body f) ≤ MAX_MESSAGE_SIZE) × (on_body r h tag body f no_draw ≡ outcome)

-- The outcome brings no LargeResponse.
abbrev pub is_whole : Outcome → Bool
is_whole (Adds entry) = not (is_large entry)
is_whole _ = true

-- A body may lead to an outcome that brings no LargeResponse exactly when it leads to it at the values that the answer
-- shows. The heartbeat period is a byte.
abbrev pub AnswersAreShown : Type 0
AnswersAreShown = (r : RspSetup) (h : History) (tag : ℕ) (body : List ℕ) (outcome : Outcome)
    → r.beat < 256 → is_whole outcome ≡ true
    → MayLeadTo r h tag body outcome ↔ LeadsAt r h tag body outcome (values_shown_by r h tag body (body_of outcome))

-- Where it may lead to an entry whose answer goes by LargeResponse, at these values it leads to one that differs from it in
-- the bytes of that answer alone.
abbrev pub LargeAreShown : Type 0
LargeAreShown = (r : RspSetup) (h : History) (tag : ℕ) (body : List ℕ) (entry : Entry)
    → r.beat < 256 → is_large entry ≡ true → MayLeadTo r h tag body (Adds entry)
    → (other : Entry) × LeadsAt r h tag body (Adds other) (values_shown_by r h tag body (sent_by entry))
    × (is_large other ≡ true) × (sent_by other ≡ sent_by entry) × (unseen other ≡ unseen entry)
