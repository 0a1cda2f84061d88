-- The requests: which bytes encode which one (DSP0274, section 10). A number is encoded with its low byte first.
use Rattle.std.specs.Prelude.{◌≡◌, ◌<◌, ◌≤◌, ◌^◌, ◌+◌, ◌*◌, ◌/◌, ◌%◌, ◌==◌, ◌||◌, ℕ, true, nat_le, if◌then◌else◌, List, [], ◌∷◌, ◌++◌, length, Option, Result}
use Rattle.std.specs.Result.{result_ok, result_err}
use Rattle.byteorder.specs.Endian.{little_bytes}
use Rattle.spdm_grammar.specs.declared.messages.malformed.Malformed.{Malformed}
use Rattle.spdm_grammar.specs.Codes.{is_request_code}
use Rattle.spdm_grammar.specs.Layout.{Layout, IsSpelling, reserved, AreTables}
use Rattle.spdm_grammar.specs.Layout.Layout.{Whole, Sized, Number, Bytes, Tables}
use Rattle.spdm_grammar.specs.Reading.{read, front}
use Rattle.spdm_grammar.specs.Fields.{any, is_even, is_key_operation, is_summary, is_opaque_length, FitsCaps, FitsChunk, IsSoundChunk, caps_bytes, chunk_bytes, zeros, caps_layout, chunk_layout}
use Rattle.spdm_grammar.specs.Message.{RequestMessage, OfferMessage, ExchangeMessage}
use Rattle.spdm_grammar.specs.Message.RequestMessage.{GetVersion, GetCapabilities, NegotiateAlgorithms, GetMeasurements, PskExchange, PskFinish, Heartbeat, KeyUpdate, EndSession, ChunkSend, ChunkGet}
use Rattle.spdm_grammar.specs.declared.names.request_code.TheConstants.{GET_VERSION, CHUNK_SEND, CHUNK_GET, GET_MEASUREMENTS, GET_CAPABILITIES, NEGOTIATE_ALGORITHMS, PSK_EXCHANGE, PSK_FINISH, HEARTBEAT, KEY_UPDATE, END_SESSION}
use Rattle.spdm_grammar.specs.declared.names.spdm_version.TheConstants.{V1_0, V1_2}

-- ---- The fields of each request behind SPDMVersion and code. Param1 and Param2 come first; where they mean nothing they are reserved.

-- "GET_VERSION request message format"
unfoldable pub get_version_layout : Layout RequestMessage
get_version_layout = reserved 2 (Whole GetVersion)

-- "GET_CAPABILITIES request message format"
unfoldable pub get_capabilities_layout : Layout RequestMessage
get_capabilities_layout = caps_layout GetCapabilities

-- "NEGOTIATE_ALGORITHMS request message format": Param1 is the number of algorithm structures, and Length that of the whole message.
unfoldable pub negotiate_algorithms_layout : Layout RequestMessage
negotiate_algorithms_layout =
    Number 1 any (λ count.
    reserved 1 (
    Number 2 any (λ told.
    Number 1 any (λ measurement.
    Number 1 any (λ other.
    Number 4 any (λ asym.
    Number 4 any (λ hash.
    reserved 12 (
    Number 1 any (λ ext_asym_count.
    Number 1 any (λ ext_hash_count.
    reserved 2 (
    Bytes (4 * ext_asym_count) (λ ext_asym.
    Bytes (4 * ext_hash_count) (λ ext_hash.
    Tables count (λ tables.
    Sized told 4 (NegotiateAlgorithms (record { measurement = measurement; other = other; asym = asym; hash = hash; ext_asym = ext_asym; ext_hash = ext_hash; count = count; tables = tables }))))))))))))))))

-- "GET_MEASUREMENTS request message format": no signature is asked for (bit 0 of Param1), and Param2 is the operation.
unfoldable pub get_measurements_layout : Layout RequestMessage
get_measurements_layout = Number 1 is_even (λ _. Number 1 any (λ op. Whole (GetMeasurements op)))

-- "PSK_EXCHANGE request message format": Param1 is MeasurementSummaryHashType, and Param2, SessionPolicy, may be anything.
unfoldable pub psk_exchange_layout : ℕ → Layout RequestMessage
psk_exchange_layout hash_len =
    Number 1 is_summary (λ summary.
    reserved 1 (
    Number 2 any (λ req_id.
    Number 2 any (λ hint_len.
    Number 2 (λ n. nat_le hash_len n) (λ context_len.
    Number 2 is_opaque_length (λ opaque_len.
    Bytes hint_len (λ hint.
    Bytes context_len (λ context.
    Bytes opaque_len (λ opaque.
    Whole (PskExchange (record { summary = summary; req_id = req_id; hint = hint; context = context; opaque = opaque })))))))))))

-- "PSK_FINISH request message format"
unfoldable pub psk_finish_layout : ℕ → Layout RequestMessage
psk_finish_layout hash_len = reserved 2 (Bytes hash_len (λ verify. Whole (PskFinish verify)))

-- "HEARTBEAT request message format"
unfoldable pub heartbeat_layout : Layout RequestMessage
heartbeat_layout = reserved 2 (Whole Heartbeat)

-- "KEY_UPDATE request message format": Param1 is the operation, Param2 the tag.
unfoldable pub key_update_layout : Layout RequestMessage
key_update_layout = Number 1 is_key_operation (λ op. Number 1 any (λ tag. Whole (KeyUpdate op tag)))

-- "END_SESSION request message format"
unfoldable pub end_session_layout : Layout RequestMessage
end_session_layout = reserved 2 (Whole EndSession)

-- "CHUNK_SEND request message format"
unfoldable pub chunk_send_layout : Layout RequestMessage
chunk_send_layout = chunk_layout ChunkSend

-- "CHUNK_GET request message format": Param2 is the handle.
unfoldable pub chunk_get_layout : Layout RequestMessage
chunk_get_layout = reserved 1 (Number 1 any (λ handle. Number 2 any (λ number. Whole (ChunkGet handle number))))

-- ---- The whole request

-- The fields after a code that goes with its SPDMVersion.
unfoldable pub request_body : ℕ → ℕ → Layout RequestMessage
request_body hash_len code =
    if code == GET_VERSION then get_version_layout
    else (if code == GET_CAPABILITIES then get_capabilities_layout
    else (if code == NEGOTIATE_ALGORITHMS then negotiate_algorithms_layout
    else (if code == GET_MEASUREMENTS then get_measurements_layout
    else (if code == PSK_EXCHANGE then psk_exchange_layout hash_len
    else (if code == PSK_FINISH then psk_finish_layout hash_len
    else (if code == HEARTBEAT then heartbeat_layout
    else (if code == KEY_UPDATE then key_update_layout
    else (if code == END_SESSION then end_session_layout
    else (if code == CHUNK_SEND then chunk_send_layout
    else chunk_get_layout)))))))))

-- SPDMVersion, then a code that goes with it, then what belongs to the code.
abbrev pub request_layout : ℕ → Layout RequestMessage
request_layout hash_len =
    Number 1 (λ version. version == V1_0 || version == V1_2) (λ version.
    Number 1 (is_request_code version) (λ code.
    request_body hash_len code))

-- The bytes encode the request, where a hash has so many bytes.
abbrev pub IsRequestSpelling : ℕ → RequestMessage → List ℕ → Type 0
IsRequestSpelling hash_len message bytes = IsSpelling (request_layout hash_len) 0 message bytes

-- The request that bytes encode, or their first fault.
abbrev pub request_reading : ℕ → List ℕ → Result RequestMessage Malformed
request_reading hash_len bytes = read (request_layout hash_len) (front bytes)

-- The request that bytes encode, if they encode one.
abbrev pub request_in : ℕ → List ℕ → Option RequestMessage
request_in hash_len bytes = result_ok (request_reading hash_len bytes)

-- The first fault of bytes that encode none.
abbrev pub request_fault : ℕ → List ℕ → Option Malformed
request_fault hash_len bytes = result_err (request_reading hash_len bytes)

-- ---- Writing

-- An offer whose numbers fit their fields.
pub record FitsOffer (offer : OfferMessage) : Type 0 where
  pub measurement : offer.measurement < 256
  pub other : offer.other < 256
  pub asym : offer.asym < 2 ^ 32
  pub hash : offer.hash < 2 ^ 32
  pub count : offer.count < 256

-- The requests whose numbers fit their fields, as they do in each value of the type `Request`.
abbrev pub FitsRequest : RequestMessage → Type 0
FitsRequest GetVersion = Unit {0}
FitsRequest (GetCapabilities caps) = FitsCaps caps
FitsRequest (NegotiateAlgorithms offer) = FitsOffer offer
FitsRequest (GetMeasurements op) = op < 256
FitsRequest (PskExchange exchange) = (exchange.summary < 256) × (exchange.req_id < 2 ^ 16)
FitsRequest (PskFinish verify) = Unit {0}
FitsRequest Heartbeat = Unit {0}
FitsRequest (KeyUpdate op tag) = (op < 256) × (tag < 256)
FitsRequest EndSession = Unit {0}
FitsRequest (ChunkSend chunk) = FitsChunk chunk
FitsRequest (ChunkGet handle number) = (handle < 256) × (number < 2 ^ 16)

-- An offer that has an encoding: external entries of four bytes each, up to 255 of either kind, as many structures as
-- told, and a length that Length can tell.
pub record IsSoundOffer (offer : OfferMessage) : Type 0 where
  pub ext_asym : length offer.ext_asym % 4 ≡ 0
  pub ext_asym_few : length offer.ext_asym ≤ 1020
  pub ext_hash : length offer.ext_hash % 4 ≡ 0
  pub ext_hash_few : length offer.ext_hash ≤ 1020
  pub tables : AreTables offer.count offer.tables
  pub told : 32 + length offer.ext_asym + length offer.ext_hash + length offer.tables < 2 ^ 16

-- An exchange that has an encoding: a known kind of summary, a context of at least so many bytes as a hash has, and
-- lengths that their fields can tell.
pub record IsSoundExchange (hash_len : ℕ) (exchange : ExchangeMessage) : Type 0 where
  pub summary : is_summary exchange.summary ≡ true
  pub hint : length exchange.hint < 2 ^ 16
  pub context_long : hash_len ≤ length exchange.context
  pub context : length exchange.context < 2 ^ 16
  pub opaque : length exchange.opaque ≤ 1024

-- The requests that have an encoding, of those whose numbers fit.
abbrev pub IsSoundRequest : ℕ → RequestMessage → Type 0
IsSoundRequest hash_len GetVersion = Unit {0}
IsSoundRequest hash_len (GetCapabilities caps) = Unit {0}
IsSoundRequest hash_len (NegotiateAlgorithms offer) = IsSoundOffer offer
IsSoundRequest hash_len (GetMeasurements op) = Unit {0}
IsSoundRequest hash_len (PskExchange exchange) = IsSoundExchange hash_len exchange
IsSoundRequest hash_len (PskFinish verify) = length verify ≡ hash_len
IsSoundRequest hash_len Heartbeat = Unit {0}
IsSoundRequest hash_len (KeyUpdate op tag) = (1 ≤ op) × (op ≤ 3)
IsSoundRequest hash_len EndSession = Unit {0}
IsSoundRequest hash_len (ChunkSend chunk) = IsSoundChunk chunk
IsSoundRequest hash_len (ChunkGet handle number) = Unit {0}

-- An offer after its code.
abbrev pub offer_bytes : OfferMessage → List ℕ
offer_bytes offer =
    (offer.count ∷ 0 ∷ []) ++ little_bytes 2 (32 + length offer.ext_asym + length offer.ext_hash + length offer.tables)
    ++ (offer.measurement ∷ offer.other ∷ []) ++ little_bytes 4 offer.asym ++ little_bytes 4 offer.hash ++ zeros 12
    ++ (length offer.ext_asym / 4 ∷ length offer.ext_hash / 4 ∷ 0 ∷ 0 ∷ [])
    ++ offer.ext_asym ++ offer.ext_hash ++ offer.tables

-- An exchange after its code.
abbrev pub exchange_bytes : ExchangeMessage → List ℕ
exchange_bytes exchange =
    (exchange.summary ∷ 0 ∷ []) ++ little_bytes 2 exchange.req_id ++ little_bytes 2 (length exchange.hint)
    ++ little_bytes 2 (length exchange.context) ++ little_bytes 2 (length exchange.opaque)
    ++ exchange.hint ++ exchange.context ++ exchange.opaque

-- The one encoding that is written: every reserved field is zero.
abbrev pub canonical_request : RequestMessage → List ℕ
canonical_request GetVersion = V1_0 ∷ GET_VERSION ∷ 0 ∷ 0 ∷ []
canonical_request (GetCapabilities caps) = (V1_2 ∷ GET_CAPABILITIES ∷ []) ++ caps_bytes caps
canonical_request (NegotiateAlgorithms offer) = (V1_2 ∷ NEGOTIATE_ALGORITHMS ∷ []) ++ offer_bytes offer
canonical_request (GetMeasurements op) = V1_2 ∷ GET_MEASUREMENTS ∷ 0 ∷ op ∷ []
canonical_request (PskExchange exchange) = (V1_2 ∷ PSK_EXCHANGE ∷ []) ++ exchange_bytes exchange
canonical_request (PskFinish verify) = (V1_2 ∷ PSK_FINISH ∷ 0 ∷ 0 ∷ []) ++ verify
canonical_request Heartbeat = V1_2 ∷ HEARTBEAT ∷ 0 ∷ 0 ∷ []
canonical_request (KeyUpdate op tag) = V1_2 ∷ KEY_UPDATE ∷ op ∷ tag ∷ []
canonical_request EndSession = V1_2 ∷ END_SESSION ∷ 0 ∷ 0 ∷ []
canonical_request (ChunkSend chunk) = (V1_2 ∷ CHUNK_SEND ∷ []) ++ chunk_bytes chunk
canonical_request (ChunkGet handle number) = (V1_2 ∷ CHUNK_GET ∷ 0 ∷ handle ∷ []) ++ little_bytes 2 number
