-- What the packets of a capture show of the sessions of each requester, and of the records that they complete. Packets are
-- bytes, the newest first. This project's own.
use Rattle.std.specs.Prelude.{ℕ, List, [], ◌∷◌, map, ◌==◌, if◌then◌else◌, slice_index_or, slice_set, false, Option, Some, None, Result, Ok}
use Rattle.capture_bodies.specs.Collecting.{Large, large_in}
use Rattle.capture_bodies.specs.Collecting.Large.{Whole}
use Rattle.capture_bodies.specs.Completing.{Completed, completed_in}
use Rattle.capture_bodies.specs.Completing.Completed.{Body}
use Rattle.capture_records.specs.Ends.{eids_of, own_of, way_in}
use Rattle.capture_records.specs.Heard.{Heard, after_answer, after_request, nothing_heard}
use Rattle.capture_records.specs.Showing.{Seen, after_record, seen_of}
use Rattle.capture_records.specs.Showing.Seen.{NoRecord, NoSession}
use Rattle.capture_records.specs.declared.ends.Way.{Way}
use Rattle.key_schedule.specs.declared.direction.Direction.{Direction}
use Rattle.key_schedule.specs.declared.direction.Direction.TheVariants.{Request, Response}
use Rattle.mctp_framing.specs.Packet.{parsed}
use Rattle.script_text.specs.declared.configuration.config.ReqPart.{ReqPart}
use Rattle.script_text.specs.declared.configuration.config.ScriptConfig.{ScriptConfig}
use Rattle.spdm_grammar.specs.Message.{ResponseMessage}
use Rattle.spdm_grammar.specs.Message.ResponseMessage.{ChunkSendAck}
use Rattle.spdm_grammar.specs.Responses.{response_reading}
use Rattle.spdm_grammar.specs.declared.messages.malformed.Malformed.{Malformed}
use Rattle.spdm_grammar.specs.declared.names.message_type.TheConstants.{SECURED, SPDM}

-- ---- Messages in the clear, whole.

-- The answer to a large request that CHUNK_SEND_ACK carries, or the message itself.
abbrev pub carried_by : Result ResponseMessage Malformed → (message : List ℕ) → List ℕ
carried_by (Ok (ChunkSendAck early handle number response)) message = response
carried_by _ message = message

-- No part of CHUNK_SEND_ACK depends on the length of a hash.
abbrev pub answer_in : (message : List ℕ) → List ℕ
answer_in message = carried_by (response_reading 32 false message) message

abbrev pub after_message : Heard → Direction → (message : List ℕ) → Heard
after_message h Request message = after_request h message
after_message h Response message = after_answer h (answer_in message)

-- ---- A packet between a requester and the responder, by what it completes and does.

abbrev pub after_typed : Heard → Direction → (type : ℕ) → List ℕ → Heard
after_typed h direction type message =
    if type == SPDM then after_message h direction message
    else (if type == SECURED then after_record h direction message
    else h)

abbrev pub after_body : Heard → Direction → Completed → Heard
after_body h direction (Body owner (type ∷ message)) = after_typed h direction type message
after_body h direction _ = h

abbrev pub after_large : Heard → Direction → Large → Heard
after_large h direction (Whole message) = after_message h direction message
after_large h direction _ = h

unfoldable pub after_packet : Heard → Direction → Completed → Large → Heard
after_packet h direction done large = after_large (after_body h direction done) direction large

abbrev pub seen_typed : Heard → Direction → (type : ℕ) → List ℕ → Seen
seen_typed h direction type message = if type == SECURED then seen_of h direction message else NoRecord

unfoldable pub seen_by : Heard → Direction → Completed → Seen
seen_by h direction (Body owner (type ∷ message)) = seen_typed h direction type message
seen_by h direction _ = NoRecord

-- ---- Between other ends no session is shown.

abbrev pub unheard_typed : (type : ℕ) → Seen
unheard_typed type = if type == SECURED then NoSession else NoRecord

abbrev pub unheard : Completed → Seen
unheard (Body owner (type ∷ message)) = unheard_typed type
unheard _ = NoRecord

-- ---- All requesters.

abbrev pub nobody : Heard
nobody = nothing_heard []

abbrev pub heard_at : List Heard → (place : ℕ) → Heard
heard_at all place = slice_index_or all place nobody

abbrev pub all_after : List Heard → Option Way → Completed → Large → List Heard
all_after all None done large = all
all_after all (Some way) done large = slice_set all way.place (after_packet (heard_at all way.place) way.direction done large)

abbrev pub seen_among : List Heard → Option Way → Completed → Seen
seen_among all None done = unheard done
seen_among all (Some way) done = seen_by (heard_at all way.place) way.direction done

-- ---- Behind the packets before it.

abbrev pub fresh : ReqPart → Heard
fresh q = nothing_heard q.psk

abbrev pub heard_of : ScriptConfig → List (List ℕ) → List Heard
heard_of config [] = map fresh config.requesters
heard_of config (packet ∷ older) =
    all_after (heard_of config older) (way_in config (parsed packet))
    (completed_in (own_of config) (eids_of config) older (parsed packet))
    (large_in (own_of config) (eids_of config) older (parsed packet))

-- What is shown of the record that a packet completes.
unfoldable pub record_in : ScriptConfig → List (List ℕ) → (packet : List ℕ) → Seen
record_in config older packet =
    seen_among (heard_of config older) (way_in config (parsed packet))
    (completed_in (own_of config) (eids_of config) older (parsed packet))
