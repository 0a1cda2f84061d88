-- The other lines that the program prints: of restarts, of captures, of messages and of generated scripts. This
-- project's own.
use Rattle.std.specs.Prelude.{ℕ, List, [], ◌∷◌, codes, Option, Some, None}
use Rattle.std.specs.Fmt.{decimal}
use Rattle.trace_text.specs.Spelling.{spelled, hex_word, id_word, requester_word}
use Rattle.trace_text.specs.TraceWords.{stage_word}
use Rattle.spdm_grammar.specs.declared.told.why.Why.{Why}
use Rattle.spdm_grammar.specs.declared.told.why.Why.TheVariants as why
use Rattle.spdm_basis.specs.declared.values.session_id.SessionId.{SessionId}
use Rattle.spdm_grammar.specs.Message.{RequestMessage, ResponseMessage}
use Rattle.spdm_grammar.specs.Message.RequestMessage.{GetVersion, GetCapabilities, NegotiateAlgorithms, GetMeasurements, PskExchange, PskFinish, Heartbeat, KeyUpdate, EndSession, ChunkSend, ChunkGet}
use Rattle.spdm_grammar.specs.Message.ResponseMessage.{Version, Capabilities, Algorithms, Measurements, PskExchangeRsp, PskFinishRsp, HeartbeatAck, KeyUpdateAck, EndSessionAck, ChunkSendAck, ChunkResponse, Error}
use Rattle.spdm_grammar.specs.declared.messages.malformed.Malformed.{Malformed}
use Rattle.spdm_grammar.specs.declared.messages.malformed.Part.{Part}
use Rattle.spdm_grammar.specs.declared.messages.malformed.Part.TheVariants as part
use Rattle.spdm_grammar.specs.declared.told.phase.Stage.{Stage}

-- All ends start again, with this boot number.
unfoldable pub cycle_text : (boot : ℕ) → List ℕ
cycle_text boot = spelled (codes "cycle" ∷ decimal boot ∷ [])

-- ---- Captures.

-- The capture conforms.
unfoldable pub conforms_text : List ℕ
conforms_text = spelled (codes "conforms" ∷ [])

-- The stage of a session in the table of a capture; none is that of an ended session.
abbrev pub seen_stage_word : Option Stage → List ℕ
seen_stage_word None = codes "ended"
seen_stage_word (Some stage) = stage_word stage

-- A session that a capture shows: its requester, its id and stage, its hash, and how many records of it were sent in
-- requests and in answers.
unfoldable pub seen_text : (n : ℕ) → SessionId → Option Stage → (hash : List ℕ) → (sent answered : ℕ) → List ℕ
seen_text n id stage hash sent answered = spelled (
    codes "session"
    ∷ requester_word n
    ∷ id_word id
    ∷ seen_stage_word stage
    ∷ hex_word hash
    ∷ decimal sent
    ∷ decimal answered
    ∷ [])

-- Why a packet is the first that differs.
abbrev pub why_word : Why → List ℕ
why_word why.BadPacket = codes "bad-packet"
why_word why.UnknownEnd = codes "unknown-end"
why_word why.WrongTurn = codes "wrong-turn"
why_word why.BadRequest = codes "bad-request"
why_word why.BadReply = codes "bad-reply"
why_word why.BadVerify = codes "bad-verify"
why_word why.BadRecord = codes "bad-record"

-- The first packet that differs.
unfoldable pub differs_text : (packet : ℕ) → Why → List ℕ
differs_text packet why = spelled (codes "differs" ∷ decimal packet ∷ why_word why ∷ [])

-- ---- Messages.

-- The names of messages (DSP0274, "SPDM request codes" and "SPDM response codes").
abbrev pub request_name : RequestMessage → List ℕ
request_name GetVersion = codes "GET_VERSION"
request_name (GetCapabilities caps) = codes "GET_CAPABILITIES"
request_name (NegotiateAlgorithms offer) = codes "NEGOTIATE_ALGORITHMS"
request_name (GetMeasurements op) = codes "GET_MEASUREMENTS"
request_name (PskExchange exchange) = codes "PSK_EXCHANGE"
request_name (PskFinish verify) = codes "PSK_FINISH"
request_name Heartbeat = codes "HEARTBEAT"
request_name (KeyUpdate op tag) = codes "KEY_UPDATE"
request_name EndSession = codes "END_SESSION"
request_name (ChunkSend chunk) = codes "CHUNK_SEND"
request_name (ChunkGet handle number) = codes "CHUNK_GET"

abbrev pub response_name : ResponseMessage → List ℕ
response_name (Version entries) = codes "VERSION"
response_name (Capabilities caps) = codes "CAPABILITIES"
response_name (Algorithms reply) = codes "ALGORITHMS"
response_name (Measurements measured) = codes "MEASUREMENTS"
response_name (PskExchangeRsp exchange) = codes "PSK_EXCHANGE_RSP"
response_name PskFinishRsp = codes "PSK_FINISH_RSP"
response_name HeartbeatAck = codes "HEARTBEAT_ACK"
response_name (KeyUpdateAck op tag) = codes "KEY_UPDATE_ACK"
response_name EndSessionAck = codes "END_SESSION_ACK"
response_name (ChunkSendAck early handle number answer) = codes "CHUNK_SEND_ACK"
response_name (ChunkResponse chunk) = codes "CHUNK_RESPONSE"
response_name (Error version code detail extended) = codes "ERROR"

-- A message of this name and length.
unfoldable pub message_text : (name : List ℕ) → (count : ℕ) → List ℕ
message_text name count = spelled (name ∷ decimal count ∷ [])

-- The part of a message that is at fault.
abbrev pub part_word : Part → List ℕ
part_word part.End = codes "end"
part_word part.Field = codes "field"
part_word part.Length = codes "length"
part_word part.Rest = codes "rest"

-- Where bytes that encode no message are at fault.
unfoldable pub malformed_text : Malformed → List ℕ
malformed_text m = spelled (codes "malformed" ∷ decimal m.at ∷ part_word m.what ∷ [])

-- ---- Generated scripts: their seed and count, the packets that were sent, the application messages that were
-- taken, and the sessions that are open.

unfoldable pub summary_text : (seed count packets taken live : ℕ) → List ℕ
summary_text seed count packets taken live = spelled (
    codes "gen"
    ∷ decimal seed
    ∷ decimal count
    ∷ codes "packets"
    ∷ decimal packets
    ∷ codes "taken"
    ∷ decimal taken
    ∷ codes "open"
    ∷ decimal live
    ∷ [])
