-- What an inner message is to what was asked, before anything is done about it.
use Rattle.std.specs.Prelude.{⊤, ◌≡◌, ◌≤◌, ◌+◌, ◌==◌, ◌&&◌, not, ℕ, List, [], ◌∷◌, length, slice_index, if◌then◌else◌, Bool, true, false, Result, Ok, Err}
use Rattle.chunking.specs.Collecting.{Collection}
use Rattle.chunking.specs.Collecting.Collection.{Whole, More, Refused}
use Rattle.requester_machine.specs.Answers.{measured_number}
use Rattle.requester_machine.specs.Commands.{has_reached}
use Rattle.requester_machine.specs.History.{Effect}
use Rattle.requester_machine.specs.History.Effect.{Nothing, Grants}
use Rattle.requester_machine.specs.InnerMessages.{op_in}
use Rattle.requester_machine.specs.Message.{Ask}
use Rattle.requester_machine.specs.Message.Ask.{AskFinish, AskData, AskBeat, AskUpdate, AskVerify, AskMeasure, AskChunk, AskEnd}
use Rattle.requester_machine.specs.Order.{may_bring, stage_for}
use Rattle.requester_machine.specs.Records.{asks_all}
use Rattle.requester_machine.specs.Sending.{inner_request, key_update, operation_of}
use Rattle.requester_machine.specs.Session.{Steps, session_terms, request_next, response_next}
use Rattle.spdm_grammar.specs.Message.{ResponseMessage, MeasuredMessage, ChunkMessage}
use Rattle.spdm_grammar.specs.Message.RequestMessage.{ChunkGet}
use Rattle.spdm_grammar.specs.Message.ResponseMessage.{Measurements, HeartbeatAck, KeyUpdateAck, EndSessionAck, ChunkResponse, Error}
use Rattle.spdm_grammar.specs.Responses.{response_reading}
use Rattle.spdm_machine.specs.Terms.{hash_len}
use Rattle.spdm_grammar.specs.declared.told.event.BadReply.{BadReply}
use Rattle.spdm_grammar.specs.declared.told.event.BadReply.TheVariants as bad
use Rattle.spdm_grammar.specs.declared.messages.malformed.Malformed.{Malformed}
use Rattle.spdm_grammar.specs.declared.names.error_number.TheConstants.{LARGE_RESPONSE}
use Rattle.spdm_grammar.specs.declared.names.key_operation.TheConstants.{VERIFY_NEW_KEY}
use Rattle.spdm_grammar.specs.declared.messages.part_faults.ChunkFault.TheVariants as chunk
use Rattle.spdm_grammar.specs.declared.told.phase.Stage.TheVariants as stage
use Rattle.psk_session.specs.Course.{Course, with_taken}
use Rattle.psk_session.specs.Course as courses
use Rattle.psk_session.specs.Data.{data_in}
use Rattle.psk_session.specs.Inner.{Contents}
use Rattle.psk_session.specs.Inner.Contents.{Spoken, AppData}
use Rattle.psk_session.specs.declared.reply.Reply.{Reply}
use Rattle.psk_session.specs.declared.reply.Reply.TheVariants as reply
use Rattle.secured_record.specs.declared.TheConstants.{MAX_RECORD_SIZE}

-- It is no answer; END_SESSION_ACK; the answer, with its application data or measurement record; KEY_UPDATE_ACK to an
-- update; or LargeResponse, with the operation and the handle of the large response.
pub data Verdict : Type 0 where
  Bad : (fault : BadReply) → Verdict
  Ended : Verdict
  Answered : (reply : Reply) → (bytes : List ℕ) → Verdict
  Updated : (all : Bool) → Verdict
  Large : (op : ℕ) → (handle : ℕ) → Verdict

-- It has a verdict; or it is the chunk that was asked for, of a large response to this operation.
pub data Meaning : Type 0 where
  Done : (verdict : Verdict) → Meaning
  Piece : (op : ℕ) → (chunk : ChunkMessage) → Meaning

abbrev pub wrong_kind : Verdict
wrong_kind = Bad bad.WrongKind

-- ---- By what is asked, where chunks are in common or not, and under this tag of KEY_UPDATE.

abbrev pub error_verdict : (chunks : Bool) → Ask → (code : ℕ) → (extended : List ℕ) → Verdict
error_verdict chunks (AskMeasure op) code extended =
    if code == LARGE_RESPONSE && chunks then Large op (slice_index extended 0)
    else Answered (reply.Refused code) []
error_verdict chunks (AskUpdate all) code extended = Bad (bad.Refused code)
error_verdict chunks AskVerify code extended = Bad (bad.Refused code)
error_verdict chunks AskEnd code extended = Bad (bad.Refused code)
error_verdict chunks AskFinish code extended = Bad (bad.Refused code)
error_verdict chunks _ code extended = Answered (reply.Refused code) []

abbrev pub ack_verdict : (tag : ℕ) → Ask → (op told : ℕ) → Verdict
ack_verdict tag (AskUpdate all) op told =
    if op == operation_of all && told == tag then Updated all else wrong_kind
ack_verdict tag AskVerify op told =
    if op == VERIFY_NEW_KEY && told == tag then Answered reply.Updated [] else wrong_kind
ack_verdict tag _ op told = wrong_kind

abbrev pub beat_verdict : Ask → Verdict
beat_verdict AskBeat = Answered reply.Alive []
beat_verdict _ = wrong_kind

abbrev pub end_verdict : Ask → Verdict
end_verdict AskEnd = Ended
end_verdict _ = wrong_kind

abbrev pub data_verdict : Ask → (bytes : List ℕ) → Verdict
data_verdict AskData bytes = Answered reply.Data bytes
data_verdict _ bytes = wrong_kind

abbrev pub measured_by : (op : ℕ) → MeasuredMessage → Verdict
measured_by op measured =
    Answered (reply.Measured (measured_number op measured)) measured.block_bytes

abbrev pub measured_verdict : Ask → MeasuredMessage → Verdict
measured_verdict (AskMeasure op) measured = measured_by op measured
measured_verdict _ measured = wrong_kind

abbrev pub chunk_meaning : Ask → ChunkMessage → Meaning
chunk_meaning (AskChunk op handle number before) c =
    if not (c.handle == handle) then Done (Bad (bad.Chunk chunk.WrongHandle))
    else (if not (c.number == number) then Done (Bad (bad.Chunk chunk.WrongNumber))
    else Piece op c)
chunk_meaning _ c = Done wrong_kind

abbrev pub message_meaning : (chunks : Bool) → (tag : ℕ) → Ask → ResponseMessage → Meaning
message_meaning chunks tag a (Error version code detail extended) =
    Done (error_verdict chunks a code extended)
message_meaning chunks tag a HeartbeatAck = Done (beat_verdict a)
message_meaning chunks tag a (KeyUpdateAck op told) = Done (ack_verdict tag a op told)
message_meaning chunks tag a (Measurements measured) = Done (measured_verdict a measured)
message_meaning chunks tag a EndSessionAck = Done (end_verdict a)
message_meaning chunks tag a (ChunkResponse c) = chunk_meaning a c
message_meaning chunks tag a _ = Done wrong_kind

abbrev pub meaning_of : (chunks : Bool) → (tag : ℕ) → Ask → Result Contents BadReply → Meaning
meaning_of chunks tag a (Err fault) = Done (Bad fault)
meaning_of chunks tag a (Ok (AppData bytes)) = Done (data_verdict a bytes)
meaning_of chunks tag a (Ok (Spoken message)) = message_meaning chunks tag a message

-- A whole large response to an operation, by what it reads as. A LargeResponse in it is followed unless the numbers are
-- reached from which on GET_MEASUREMENTS is not asked.
abbrev pub whole_verdict : (reached : Bool) → (op : ℕ) → Result ResponseMessage Malformed → Verdict
whole_verdict reached op (Err fault) = Bad (bad.Malformed fault.at)
whole_verdict reached op (Ok (Error version code detail extended)) =
    if code == LARGE_RESPONSE && not reached then Large op (slice_index extended 0)
    else Answered (reply.Refused code) []
whole_verdict reached op (Ok (Measurements measured)) = measured_by op measured
whole_verdict reached op (Ok _) = wrong_kind

-- ---- What it leads to.

-- What a reply brings about, whose whole message is this.
abbrev pub effect_of : (answer : List ℕ) → (op : ℕ) → Reply → Effect
effect_of answer op reply.Data = Grants AskData answer
effect_of answer op reply.Alive = Grants AskBeat answer
effect_of answer op reply.Updated = Grants AskVerify answer
effect_of answer op (reply.Measured number) = Grants (AskMeasure op) answer
effect_of answer op (reply.Refused code) = Nothing

abbrev pub course_of : (psk : List ℕ) → Steps → Ask → (sealed answer : List ℕ) → Verdict → Course
course_of psk s a sealed answer (Bad fault) = courses.Course.Lost fault
course_of psk s a sealed answer Ended = courses.Course.Ended
course_of psk s a sealed answer (Answered reply bytes) =
    courses.Course.Answered reply (effect_of answer (op_in a) reply)
course_of psk s a sealed answer (Updated all) =
    courses.Course.GoesOn (Grants (AskUpdate all) answer) AskVerify
    (inner_request (key_update (with_taken psk s a sealed (Grants (AskUpdate all) answer)) VERIFY_NEW_KEY))
course_of psk s a sealed answer (Large op handle) =
    courses.Course.GoesOn Nothing (AskChunk op handle 0 []) (inner_request (ChunkGet handle 0))

-- What a chunk leads to, by what a collector says of it that was given the chunks before: it is refused; the next one
-- is asked for; or the large response is whole.
abbrev pub chunk_course : (psk : List ℕ) → Steps → (op handle number : ℕ)
    → (before : List ChunkMessage) → (sealed : List ℕ) → ChunkMessage → Collection → Course
chunk_course psk s op handle number before sealed c (Refused fault) =
    courses.Course.Lost (bad.Chunk fault)
chunk_course psk s op handle number before sealed c More =
    courses.Course.GoesOn Nothing (AskChunk op c.handle (c.number + 1) (c
    ∷ before)) (inner_request (ChunkGet c.handle (c.number + 1)))
chunk_course psk s op handle number before sealed c (Whole answer) =
    course_of psk s (AskChunk op handle number before) sealed answer
    (whole_verdict (has_reached 65300 s) op
    (response_reading (hash_len (session_terms s)) false answer))

-- The verdict goes with what is asked of a session of these steps.
abbrev pub Fits : Steps → Ask → (answer : List ℕ) → Verdict → Type 0
Fits s a answer (Bad fault) = ⊤
Fits s a answer Ended = ⊤
Fits s a answer (Answered reply bytes) =
    (may_bring (effect_of answer (op_in a) reply) a ≡ true) × (asks_all a ≡ false)
    × (data_in (effect_of answer (op_in a) reply) ≡ bytes) × (length bytes ≤ MAX_RECORD_SIZE)
Fits s a answer (Updated all) = a ≡ AskUpdate all
Fits s a answer (Large op handle) =
    (asks_all a ≡ false) × (stage_for a ≡ stage.Open) × (request_next s ≤ 65300)
    × (response_next s ≤ 65299)
