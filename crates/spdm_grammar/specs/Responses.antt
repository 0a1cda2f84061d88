-- The responses: which bytes encode which one (DSP0274, section 10). A number is encoded with its low byte first.
use Rattle.std.specs.Prelude.{◌≡◌, ◌<◌, ◌≤◌, ◌^◌, ◌+◌, ◌*◌, ◌/◌, ◌%◌, ◌==◌, ◌||◌, ◌⊎◌, ℕ, Bool, nat_le, if◌then◌else◌, List, [], ◌∷◌, ◌++◌, length, Option, Result}
use Rattle.std.specs.Result.{result_ok, result_err}
use Rattle.byteorder.specs.Endian.{little_bytes}
use Rattle.spdm_grammar.specs.declared.messages.malformed.Malformed.{Malformed}
use Rattle.spdm_grammar.specs.Codes.{is_response_code}
use Rattle.spdm_grammar.specs.Layout.{Layout, IsSpelling, reserved, AreTables}
use Rattle.spdm_grammar.specs.Layout.Layout.{Whole, Sized, Number, Bytes, Tables, UpTo, Remaining}
use Rattle.spdm_grammar.specs.Reading.{read, front}
use Rattle.spdm_grammar.specs.Fields.{any, is_key_operation, is_opaque_length, FitsCaps, FitsChunk, IsSoundChunk, caps_bytes, chunk_bytes, zeros, caps_layout, chunk_layout}
use Rattle.spdm_grammar.specs.Message.{ResponseMessage, ReplyMessage, ExchangeRspMessage, MeasuredMessage}
use Rattle.spdm_grammar.specs.Message.ResponseMessage.{Version, Capabilities, Algorithms, Measurements, PskExchangeRsp, PskFinishRsp, HeartbeatAck, KeyUpdateAck, EndSessionAck, ChunkSendAck, ChunkResponse, Error}
use Rattle.spdm_grammar.specs.declared.names.error_number.TheConstants.{RESPONSE_TOO_LARGE, LARGE_RESPONSE}
use Rattle.spdm_grammar.specs.declared.names.response_code.TheConstants.{MEASUREMENTS, CAPABILITIES, ALGORITHMS, PSK_EXCHANGE_RSP, PSK_FINISH_RSP, HEARTBEAT_ACK, KEY_UPDATE_ACK, END_SESSION_ACK, ERROR, VERSION, CHUNK_SEND_ACK, CHUNK_RESPONSE}
use Rattle.spdm_grammar.specs.declared.names.spdm_version.TheConstants.{V1_0, V1_2}

-- ---- The fields of each response behind SPDMVersion and code. Param1 and Param2 come first; where they mean nothing they are reserved.

-- "Successful VERSION response message format": a count and entries of two bytes each.
unfoldable pub version_layout : Layout ResponseMessage
version_layout = reserved 3 (Number 1 any (λ count. Bytes (2 * count) (λ entries. Whole (Version entries))))

-- "Successful CAPABILITIES response message format"
unfoldable pub capabilities_layout : Layout ResponseMessage
capabilities_layout = caps_layout Capabilities

-- "Successful ALGORITHMS response message format": Param1 is the number of algorithm structures, and Length that of the whole message.
unfoldable pub algorithms_layout : Layout ResponseMessage
algorithms_layout =
    Number 1 any (λ count.
    reserved 1 (
    Number 2 any (λ told.
    Number 1 any (λ measurement.
    Number 1 any (λ other.
    Number 4 any (λ measurement_hash.
    Number 4 any (λ asym.
    Number 4 any (λ hash.
    reserved 12 (
    Number 1 any (λ ext_asym_count.
    Number 1 any (λ ext_hash_count.
    reserved 2 (
    Bytes (4 * ext_asym_count) (λ ext_asym.
    Bytes (4 * ext_hash_count) (λ ext_hash.
    Tables count (λ tables.
    Sized told 4 (Algorithms (record { measurement = measurement; other = other; measurement_hash = measurement_hash; asym = asym; hash = hash; ext_asym = ext_asym; ext_hash = ext_hash; count = count; tables = tables })))))))))))))))))

-- "Successful MEASUREMENTS response message format": Param1 is the number of all blocks. Without a signature.
unfoldable pub measurements_layout : Layout ResponseMessage
measurements_layout =
    Number 1 any (λ total.
    reserved 1 (
    Number 1 any (λ blocks.
    Number 3 any (λ record_len.
    Bytes record_len (λ block_bytes.
    Bytes 32 (λ nonce.
    Number 2 is_opaque_length (λ opaque_len.
    Bytes opaque_len (λ opaque.
    Whole (Measurements (record { total = total; blocks = blocks; block_bytes = block_bytes; nonce = nonce; opaque = opaque }))))))))))

-- The length of the measurement summary hash: that of a hash where one was asked for.
abbrev pub summary_len : ℕ → Bool → ℕ
summary_len hash_len has_summary = if has_summary then hash_len else 0

-- "PSK_EXCHANGE_RSP response message format": Param1 is HeartbeatPeriod.
unfoldable pub psk_exchange_rsp_layout : ℕ → Bool → Layout ResponseMessage
psk_exchange_rsp_layout hash_len has_summary =
    Number 1 any (λ heartbeat.
    reserved 1 (
    Number 2 any (λ rsp_id.
    reserved 2 (
    Number 2 (λ n. nat_le hash_len n) (λ context_len.
    Number 2 is_opaque_length (λ opaque_len.
    Bytes (summary_len hash_len has_summary) (λ summary.
    Bytes context_len (λ context.
    Bytes opaque_len (λ opaque.
    Bytes hash_len (λ verify.
    Whole (PskExchangeRsp (record { heartbeat = heartbeat; rsp_id = rsp_id; summary = summary; context = context; opaque = opaque; verify = verify }))))))))))))

-- "Successful PSK_FINISH_RSP response message format"
unfoldable pub psk_finish_rsp_layout : Layout ResponseMessage
psk_finish_rsp_layout = reserved 2 (Whole PskFinishRsp)

-- "HEARTBEAT_ACK response message format"
unfoldable pub heartbeat_ack_layout : Layout ResponseMessage
heartbeat_ack_layout = reserved 2 (Whole HeartbeatAck)

-- "KEY_UPDATE_ACK response message format": Param1 is the operation, Param2 the tag.
unfoldable pub key_update_ack_layout : Layout ResponseMessage
key_update_ack_layout = Number 1 is_key_operation (λ op. Number 1 any (λ tag. Whole (KeyUpdateAck op tag)))

-- "END_SESSION_ACK response message format"
unfoldable pub end_session_ack_layout : Layout ResponseMessage
end_session_ack_layout = reserved 2 (Whole EndSessionAck)

-- "CHUNK_SEND_ACK response message format": bit 0 of Param1 marks an early error, Param2 is the handle, and the response to the large request is all the rest.
unfoldable pub chunk_send_ack_layout : Layout ResponseMessage
chunk_send_ack_layout =
    Number 1 any (λ attributes.
    Number 1 any (λ handle.
    Number 2 any (λ number.
    Remaining (λ answer. ChunkSendAck (attributes % 2 == 1) handle number answer))))

-- "CHUNK_RESPONSE response message format"
unfoldable pub chunk_response_layout : Layout ResponseMessage
chunk_response_layout = chunk_layout ChunkResponse

-- "ERROR response message format": Param1 is the error code, Param2 its data. The extended data are the actual size of four bytes for ResponseTooLarge (0x0d), the handle for LargeResponse (0x0f), and up to 32 bytes for any other code.
unfoldable pub error_layout : ℕ → Layout ResponseMessage
error_layout version =
    Number 1 any (λ code.
    Number 1 any (λ detail.
    if code == RESPONSE_TOO_LARGE then Bytes 4 (λ extended. Whole (Error version code detail extended))
    else (if code == LARGE_RESPONSE then Bytes 1 (λ extended. Whole (Error version code detail extended))
    else UpTo 32 (λ extended. Error version code detail extended))))

-- ---- The whole response

-- The fields after a code that goes with its SPDMVersion.
unfoldable pub response_body : ℕ → Bool → ℕ → ℕ → Layout ResponseMessage
response_body hash_len has_summary version code =
    if code == VERSION then version_layout
    else (if code == ERROR then error_layout version
    else (if code == CAPABILITIES then capabilities_layout
    else (if code == ALGORITHMS then algorithms_layout
    else (if code == MEASUREMENTS then measurements_layout
    else (if code == PSK_EXCHANGE_RSP then psk_exchange_rsp_layout hash_len has_summary
    else (if code == PSK_FINISH_RSP then psk_finish_rsp_layout
    else (if code == HEARTBEAT_ACK then heartbeat_ack_layout
    else (if code == KEY_UPDATE_ACK then key_update_ack_layout
    else (if code == END_SESSION_ACK then end_session_ack_layout
    else (if code == CHUNK_SEND_ACK then chunk_send_ack_layout
    else chunk_response_layout))))))))))

-- SPDMVersion, then a code that goes with it, then what belongs to the code.
abbrev pub response_layout : ℕ → Bool → Layout ResponseMessage
response_layout hash_len has_summary =
    Number 1 (λ version. version == V1_0 || version == V1_2) (λ version.
    Number 1 (is_response_code version) (λ code.
    response_body hash_len has_summary version code))

-- The bytes encode the response, where a hash has so many bytes and a measurement summary hash was asked for or not.
abbrev pub IsResponseSpelling : ℕ → Bool → ResponseMessage → List ℕ → Type 0
IsResponseSpelling hash_len has_summary message bytes = IsSpelling (response_layout hash_len has_summary) 0 message bytes

-- The response that bytes encode, or their first fault.
abbrev pub response_reading : ℕ → Bool → List ℕ → Result ResponseMessage Malformed
response_reading hash_len has_summary bytes = read (response_layout hash_len has_summary) (front bytes)

-- The response that bytes encode, if they encode one.
abbrev pub response_in : ℕ → Bool → List ℕ → Option ResponseMessage
response_in hash_len has_summary bytes = result_ok (response_reading hash_len has_summary bytes)

-- The first fault of bytes that encode none.
abbrev pub response_fault : ℕ → Bool → List ℕ → Option Malformed
response_fault hash_len has_summary bytes = result_err (response_reading hash_len has_summary bytes)

-- ---- Writing

-- A choice whose numbers fit their fields.
pub record FitsReply (reply : ReplyMessage) : Type 0 where
  pub measurement : reply.measurement < 256
  pub other : reply.other < 256
  pub measurement_hash : reply.measurement_hash < 2 ^ 32
  pub asym : reply.asym < 2 ^ 32
  pub hash : reply.hash < 2 ^ 32
  pub count : reply.count < 256

-- The responses whose numbers fit their fields, as they do in each value of the type `Response`.
abbrev pub FitsResponse : ResponseMessage → Type 0
FitsResponse (Version entries) = Unit {0}
FitsResponse (Capabilities caps) = FitsCaps caps
FitsResponse (Algorithms reply) = FitsReply reply
FitsResponse (Measurements measured) = (measured.total < 256) × (measured.blocks < 256)
FitsResponse (PskExchangeRsp exchange) = (exchange.heartbeat < 256) × (exchange.rsp_id < 2 ^ 16)
FitsResponse PskFinishRsp = Unit {0}
FitsResponse HeartbeatAck = Unit {0}
FitsResponse (KeyUpdateAck op tag) = (op < 256) × (tag < 256)
FitsResponse EndSessionAck = Unit {0}
FitsResponse (ChunkSendAck early handle number answer) = (handle < 256) × (number < 2 ^ 16)
FitsResponse (ChunkResponse chunk) = FitsChunk chunk
FitsResponse (Error version code detail extended) = (code < 256) × (detail < 256)

-- A choice that has an encoding: external entries of four bytes each, up to 255 of either kind, as many structures as
-- told, and a length that Length can tell.
pub record IsSoundReply (reply : ReplyMessage) : Type 0 where
  pub ext_asym : length reply.ext_asym % 4 ≡ 0
  pub ext_asym_few : length reply.ext_asym ≤ 1020
  pub ext_hash : length reply.ext_hash % 4 ≡ 0
  pub ext_hash_few : length reply.ext_hash ≤ 1020
  pub tables : AreTables reply.count reply.tables
  pub told : 36 + length reply.ext_asym + length reply.ext_hash + length reply.tables < 2 ^ 16

-- Measurements that have an encoding.
pub record IsSoundMeasured (measured : MeasuredMessage) : Type 0 where
  pub block_bytes : length measured.block_bytes < 2 ^ 24
  pub nonce : length measured.nonce ≡ 32
  pub opaque : length measured.opaque ≤ 1024

-- An answer to an exchange that has an encoding.
pub record IsSoundExchangeRsp (hash_len : ℕ) (has_summary : Bool) (exchange : ExchangeRspMessage) : Type 0 where
  pub summary : length exchange.summary ≡ summary_len hash_len has_summary
  pub context_long : hash_len ≤ length exchange.context
  pub context : length exchange.context < 2 ^ 16
  pub opaque : length exchange.opaque ≤ 1024
  pub verify : length exchange.verify ≡ hash_len

-- Extended error data of the length that the code wants.
abbrev pub IsExtended : ℕ → List ℕ → Type 0
IsExtended code extended =
    (code ≡ RESPONSE_TOO_LARGE → length extended ≡ 4) × (code ≡ LARGE_RESPONSE → length extended ≡ 1) × (length extended ≤ 32)

-- The responses that have an encoding, of those whose numbers fit.
abbrev pub IsSoundResponse : ℕ → Bool → ResponseMessage → Type 0
IsSoundResponse hash_len has_summary (Version entries) = (length entries % 2 ≡ 0) × (length entries ≤ 510)
IsSoundResponse hash_len has_summary (Capabilities caps) = Unit {0}
IsSoundResponse hash_len has_summary (Algorithms reply) = IsSoundReply reply
IsSoundResponse hash_len has_summary (Measurements measured) = IsSoundMeasured measured
IsSoundResponse hash_len has_summary (PskExchangeRsp exchange) = IsSoundExchangeRsp hash_len has_summary exchange
IsSoundResponse hash_len has_summary PskFinishRsp = Unit {0}
IsSoundResponse hash_len has_summary HeartbeatAck = Unit {0}
IsSoundResponse hash_len has_summary (KeyUpdateAck op tag) = (1 ≤ op) × (op ≤ 3)
IsSoundResponse hash_len has_summary EndSessionAck = Unit {0}
IsSoundResponse hash_len has_summary (ChunkSendAck early handle number answer) = Unit {0}
IsSoundResponse hash_len has_summary (ChunkResponse chunk) = IsSoundChunk chunk
IsSoundResponse hash_len has_summary (Error version code detail extended) =
    ((version ≡ V1_0) ⊎ (version ≡ V1_2)) × IsExtended code extended

-- A choice after its code.
abbrev pub reply_bytes : ReplyMessage → List ℕ
reply_bytes reply =
    (reply.count ∷ 0 ∷ []) ++ little_bytes 2 (36 + length reply.ext_asym + length reply.ext_hash + length reply.tables)
    ++ (reply.measurement ∷ reply.other ∷ []) ++ little_bytes 4 reply.measurement_hash ++ little_bytes 4 reply.asym ++ little_bytes 4 reply.hash ++ zeros 12
    ++ (length reply.ext_asym / 4 ∷ length reply.ext_hash / 4 ∷ 0 ∷ 0 ∷ [])
    ++ reply.ext_asym ++ reply.ext_hash ++ reply.tables

-- Measurements after their code.
abbrev pub measured_bytes : MeasuredMessage → List ℕ
measured_bytes measured =
    (measured.total ∷ 0 ∷ measured.blocks ∷ []) ++ little_bytes 3 (length measured.block_bytes) ++ measured.block_bytes
    ++ measured.nonce ++ little_bytes 2 (length measured.opaque) ++ measured.opaque

-- An answer to an exchange after its code.
abbrev pub exchange_rsp_bytes : ExchangeRspMessage → List ℕ
exchange_rsp_bytes exchange =
    (exchange.heartbeat ∷ 0 ∷ []) ++ little_bytes 2 exchange.rsp_id ++ zeros 2
    ++ little_bytes 2 (length exchange.context) ++ little_bytes 2 (length exchange.opaque)
    ++ exchange.summary ++ exchange.context ++ exchange.opaque ++ exchange.verify

-- The one encoding that is written: every reserved field is zero.
abbrev pub canonical_response : ResponseMessage → List ℕ
canonical_response (Version entries) = (V1_0 ∷ VERSION ∷ 0 ∷ 0 ∷ 0 ∷ length entries / 2 ∷ []) ++ entries
canonical_response (Capabilities caps) = (V1_2 ∷ CAPABILITIES ∷ []) ++ caps_bytes caps
canonical_response (Algorithms reply) = (V1_2 ∷ ALGORITHMS ∷ []) ++ reply_bytes reply
canonical_response (Measurements measured) = (V1_2 ∷ MEASUREMENTS ∷ []) ++ measured_bytes measured
canonical_response (PskExchangeRsp exchange) = (V1_2 ∷ PSK_EXCHANGE_RSP ∷ []) ++ exchange_rsp_bytes exchange
canonical_response PskFinishRsp = V1_2 ∷ PSK_FINISH_RSP ∷ 0 ∷ 0 ∷ []
canonical_response HeartbeatAck = V1_2 ∷ HEARTBEAT_ACK ∷ 0 ∷ 0 ∷ []
canonical_response (KeyUpdateAck op tag) = V1_2 ∷ KEY_UPDATE_ACK ∷ op ∷ tag ∷ []
canonical_response EndSessionAck = V1_2 ∷ END_SESSION_ACK ∷ 0 ∷ 0 ∷ []
canonical_response (ChunkSendAck early handle number answer) =
    (V1_2 ∷ CHUNK_SEND_ACK ∷ (if early then 1 else 0) ∷ handle ∷ []) ++ little_bytes 2 number ++ answer
canonical_response (ChunkResponse chunk) = (V1_2 ∷ CHUNK_RESPONSE ∷ []) ++ chunk_bytes chunk
canonical_response (Error version code detail extended) = (version ∷ ERROR ∷ code ∷ detail ∷ []) ++ extended
