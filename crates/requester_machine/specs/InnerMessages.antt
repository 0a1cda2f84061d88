-- What the inner message of a record leads to at a requester, once the record opened, or why it is no answer.
-- This project's own but for the answers themselves (DSP0274, section 10).
use Rattle.std.specs.Prelude.{◌+◌, ◌==◌, ◌&&◌, ◌||◌, not, nat_lt, ℕ, List, [], ◌∷◌, length, slice_index, drop, if◌then◌else◌, Bool, true, false, Option, Some, None, Result, Ok, Err}
use Rattle.spdm_basis.specs.Tests.{first_of_tests}
use Rattle.chunking.specs.Collecting.{joined_with}
use Rattle.spdm_grammar.specs.Message.{ResponseMessage, ChunkMessage}
use Rattle.spdm_grammar.specs.Message.ResponseMessage.{Measurements, PskFinishRsp, HeartbeatAck, KeyUpdateAck, EndSessionAck, ChunkResponse, Error}
use Rattle.spdm_grammar.specs.Responses.{response_reading}
use Rattle.spdm_grammar.specs.declared.told.event.BadReply.{BadReply}
use Rattle.spdm_grammar.specs.declared.told.event.BadReply.TheVariants as bad
use Rattle.spdm_grammar.specs.declared.told.event.Event.TheVariants as event
use Rattle.spdm_grammar.specs.declared.told.event.Finished.TheVariants as finished
use Rattle.spdm_grammar.specs.declared.messages.malformed.Malformed.{Malformed}
use Rattle.spdm_grammar.specs.declared.messages.part_faults.ChunkFault.{ChunkFault}
use Rattle.requester_machine.specs.Setup.{ReqSetup}
use Rattle.spdm_machine.specs.Terms.{hash_len}
use Rattle.requester_machine.specs.Answers.{goes_on, is_done, is_refused, measured_led}
use Rattle.requester_machine.specs.ClearAnswers.{get_fault}
use Rattle.requester_machine.specs.Commands.{Free, has_reached}
use Rattle.requester_machine.specs.History.{History, Effect, Led}
use Rattle.requester_machine.specs.History.Effect.{Nothing, Grants, Loses}
use Rattle.requester_machine.specs.Message.{Ask}
use Rattle.requester_machine.specs.Message.Ask.{AskFinish, AskData, AskBeat, AskUpdate, AskVerify, AskMeasure, AskChunk, AskEnd}
use Rattle.requester_machine.specs.Sending.{verify_sent, chunk_sent, operation_of, update_tag}
use Rattle.requester_machine.specs.Session.{Steps, when_live, session_id, session_terms}
use Rattle.requester_machine.specs.Session.Step.{Took}
use Rattle.spdm_grammar.specs.declared.names.error_number.TheConstants.{LARGE_RESPONSE}
use Rattle.spdm_grammar.specs.declared.names.TheConstants.{MAX_APP_DATA_LEN}
use Rattle.spdm_grammar.specs.declared.names.message_type.TheConstants.{SPDM}

-- A record as it came to a session: the ReqSessionID and the own history of the session when it came, the record, and
-- its inner message.
pub record Came : Type 0 where
  pub id : ℕ
  pub steps : Steps
  pub sealed : List ℕ
  pub inner : List ℕ

-- The session as it stands with the record.
abbrev pub with_record : Came → Effect → Steps
with_record came effect = when_live came.steps (Took came.sealed came.inner effect)

-- The SPDM message, or the application data, after the type.
abbrev pub message_in : Came → List ℕ
message_in came = drop 1 came.inner

-- ---- Faults of the inner message.

-- An SPDM message, type 5, is over the own transfer size; application data, type 1, has more than 1,024 bytes;
-- the inner message is empty or of another type.
abbrev pub inner_fault : ReqSetup → List ℕ → Option BadReply
inner_fault q inner = first_of_tests (
    (slice_index inner 0 == SPDM && nat_lt q.transfer (length (drop 1 inner)), bad.TooLong)
    ∷ (slice_index inner 0 == 1 && nat_lt MAX_APP_DATA_LEN (length (drop 1 inner)), bad.TooLong)
    ∷ (not (slice_index inner 0 == SPDM || slice_index inner 0 == 1), bad.Malformed 0)
    ∷ [])

-- The response that bytes encode in a session, or their first fault. No summary is asked for there.
abbrev pub reading_of : Came → List ℕ → Result ResponseMessage Malformed
reading_of came bytes = response_reading (hash_len (session_terms came.steps)) false bytes

-- ---- ERROR.

-- What an ERROR refuses, and leaves the session open.
abbrev pub outlives_error : Ask → Bool
outlives_error AskFinish = false
outlives_error AskData = true
outlives_error AskBeat = true
outlives_error (AskUpdate all) = false
outlives_error AskVerify = false
outlives_error (AskMeasure op) = true
outlives_error (AskChunk op handle number before) = true
outlives_error AskEnd = false

-- CHUNK_GET for the first chunk of the large response with the handle that LargeResponse told.
abbrev pub first_get : ReqSetup → History → Free → Came → (op : ℕ) → (extended : List ℕ) → Led
first_get q h f came op extended = goes_on Nothing (chunk_sent q h came.id (with_record came Nothing) op (slice_index extended 0) 0 [] f.pad)

-- LargeResponse, 0F, to GET_MEASUREMENTS is followed where chunks are in common.
abbrev pub follows : Came → Ask → (code : ℕ) → Bool
follows came (AskMeasure op) code = code == LARGE_RESPONSE && (session_terms came.steps).common.chunk
follows came _ code = false

-- The operation of the GET_MEASUREMENTS that is asked, also in chunks; 0 for all else.
abbrev pub op_in : Ask → ℕ
op_in (AskMeasure op) = op
op_in (AskChunk op handle number before) = op
op_in _ = 0

-- An ERROR that is not followed so refuses what was asked, or loses the session.
abbrev pub error_led : ReqSetup → History → Free → Came → Ask → (code : ℕ) → (extended : List ℕ) → Result Led BadReply
error_led q h f came ask code extended =
    if follows came ask code then Ok (first_get q h f came (op_in ask) extended)
    else (if outlives_error ask then Ok (is_refused code Nothing)
    else Err (bad.Refused code))

-- ---- KEY_UPDATE_ACK (DSP0274, "KEY_UPDATE").

-- It tells the operation and the tag that were sent.
abbrev pub echoes : Came → (sent op tag : ℕ) → Bool
echoes came sent op tag = op == sent && tag == update_tag came.steps

-- With the answer to an update the new keys stand, and VerifyNewKey is sent.
abbrev pub update_led : ReqSetup → History → Free → Came → (all : Bool) → (echo : Bool) → Result Led BadReply
update_led q h f came all echo =
    if echo then Ok (goes_on (Grants (AskUpdate all) (message_in came)) (verify_sent q h came.id (with_record came (Grants (AskUpdate all) (message_in came))) f.pad))
    else Err bad.WrongKind

-- With the answer to VerifyNewKey the command is done; one that does not tell what was sent is of the wrong kind.
abbrev pub verified_led : Came → (echo : Bool) → Result Led BadReply
verified_led came echo =
    if echo then Ok (is_done (finished.Updated (session_id came.steps)) (Grants AskVerify (message_in came)))
    else Err bad.WrongKind

-- ---- A large answer to GET_MEASUREMENTS.

-- A whole large response is one like any other. A LargeResponse in it is followed only where GET_MEASUREMENTS might be
-- asked, so that no key comes to seal too many records.
abbrev pub whole_led : ReqSetup → History → Free → Came → (op : ℕ) → (whole : List ℕ) → Result ResponseMessage Malformed → Result Led BadReply
whole_led q h f came op whole (Err fault) = Err (bad.Malformed fault.at)
whole_led q h f came op whole (Ok (Error version code detail extended)) =
    Ok (if code == LARGE_RESPONSE && not (has_reached 65300 came.steps) then first_get q h f came op extended else is_refused code Nothing)
whole_led q h f came op whole (Ok (Measurements measured)) = Ok (measured_led op measured (Grants (AskMeasure op) whole))
whole_led q h f came op whole (Ok _) = Err bad.WrongKind

-- The last chunk completes the large response, and any other calls for the next one. One that breaks a rule is no
-- answer.
abbrev pub chunk_led : ReqSetup → History → Free → Came → (op : ℕ) → List ChunkMessage → ChunkMessage → Option ChunkFault → Result Led BadReply
chunk_led q h f came op before c (Some fault) = Err (bad.Chunk fault)
chunk_led q h f came op before c None =
    if c.last then whole_led q h f came op (joined_with before c) (reading_of came (joined_with before c))
    else Ok (goes_on Nothing (chunk_sent q h came.id (with_record came Nothing) op c.handle (c.number + 1) (c ∷ before) f.pad))

-- ---- All answers.

-- What a sound SPDM message leads to: the awaited answer, or an ERROR. All others are of the wrong kind.
abbrev pub message_led : ReqSetup → History → Free → Came → Ask → ResponseMessage → Result Led BadReply
message_led q h f came ask (Error version code detail extended) = error_led q h f came ask code extended
message_led q h f came AskFinish PskFinishRsp = Ok (is_done (finished.Opened (session_id came.steps)) (Grants AskFinish (message_in came)))
message_led q h f came AskBeat HeartbeatAck = Ok (is_done (finished.Alive (session_id came.steps)) (Grants AskBeat (message_in came)))
message_led q h f came (AskUpdate all) (KeyUpdateAck op tag) = update_led q h f came all (echoes came (operation_of all) op tag)
message_led q h f came AskVerify (KeyUpdateAck op tag) = verified_led came (echoes came 3 op tag)
message_led q h f came (AskMeasure op) (Measurements measured) = Ok (measured_led op measured (Grants (AskMeasure op) (message_in came)))
message_led q h f came AskEnd EndSessionAck = Ok (is_done (finished.Ended (session_id came.steps)) (Grants AskEnd (message_in came)))
message_led q h f came (AskChunk op handle number before) (ChunkResponse c) = chunk_led q h f came op before c (get_fault q.max handle number before c)
message_led q h f came ask value = Err bad.WrongKind

-- An SPDM message that does not read is malformed at its first fault; one that reads is judged by what it is.
abbrev pub read_led : ReqSetup → History → Free → Came → Ask → Result ResponseMessage Malformed → Result Led BadReply
read_led q h f came ask (Err fault) = Err (bad.Malformed fault.at)
read_led q h f came ask (Ok value) = message_led q h f came ask value

-- Application data answers application data.
abbrev pub data_led : Came → Ask → Result Led BadReply
data_led came AskData = Ok (is_done (finished.Answered (session_id came.steps)) (Grants AskData (message_in came)))
data_led came _ = Err bad.WrongKind

-- An inner message with a fault is no answer; else type 5 is read as an SPDM message, and type 1 is application data.
abbrev pub inner_led_by : ReqSetup → History → Free → Came → Ask → Option BadReply → Result Led BadReply
inner_led_by q h f came ask (Some fault) = Err fault
inner_led_by q h f came ask None =
    if slice_index came.inner 0 == SPDM then read_led q h f came ask (reading_of came (message_in came))
    else data_led came ask

-- What the inner message leads to, or why it is no answer.
unfoldable pub inner_led : ReqSetup → History → Free → Came → Ask → Result Led BadReply
inner_led q h f came ask = inner_led_by q h f came ask (inner_fault q came.inner)

-- Where it is none, the session is lost.
abbrev pub or_lost : Came → Result Led BadReply → Led
or_lost came (Ok led) = led
or_lost came (Err fault) = record { event = event.Lost (session_id came.steps) fault; effect = Loses; next = None }
