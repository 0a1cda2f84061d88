-- The codes of messages (DSP0274, "SPDM request codes" and "SPDM response codes"). Their numbers and the lists of them
-- are constants of the program.
use Rattle.std.specs.Prelude.{◌==◌, ℕ, Bool, List, ◌∷◌, if◌then◌else◌}
use Rattle.std.specs.List.{list_any}
use Rattle.spdm_grammar.specs.Message.{RequestMessage}
use Rattle.spdm_grammar.specs.Message.RequestMessage.{GetVersion, GetCapabilities, NegotiateAlgorithms, GetMeasurements, PskExchange, PskFinish, Heartbeat, KeyUpdate, EndSession, ChunkSend, ChunkGet}
use Rattle.spdm_grammar.specs.declared.names.TheConstants.{REQUESTS_OF_V1_2, RESPONSES_OF_V1_0, RESPONSES_OF_V1_2}
use Rattle.spdm_grammar.specs.declared.names.request_code.TheConstants.{GET_VERSION, CHUNK_SEND, CHUNK_GET, GET_MEASUREMENTS, GET_CAPABILITIES, NEGOTIATE_ALGORITHMS, PSK_EXCHANGE, PSK_FINISH, HEARTBEAT, KEY_UPDATE, END_SESSION}
use Rattle.spdm_grammar.specs.declared.names.spdm_version.TheConstants.{V1_0}

-- The code stands in the list.
abbrev pub is_one_of : List ℕ → ℕ → Bool
is_one_of codes code = list_any (λ x. code == x) codes

-- All request codes.
abbrev pub request_codes : List ℕ
request_codes = GET_VERSION ∷ REQUESTS_OF_V1_2

-- A request of SPDMVersion 1.0 is GET_VERSION, and all others are of 1.2.
abbrev pub is_request_code : ℕ → ℕ → Bool
is_request_code version code = if version == V1_0 then code == GET_VERSION else is_one_of REQUESTS_OF_V1_2 code

-- A response of SPDMVersion 1.0 is VERSION or ERROR; ERROR and all others are of 1.2.
abbrev pub is_response_code : ℕ → ℕ → Bool
is_response_code version code = if version == V1_0 then is_one_of RESPONSES_OF_V1_0 code else is_one_of RESPONSES_OF_V1_2 code

-- The code of a request.
abbrev pub code_for : RequestMessage → ℕ
code_for GetVersion = GET_VERSION
code_for (GetCapabilities caps) = GET_CAPABILITIES
code_for (NegotiateAlgorithms offer) = NEGOTIATE_ALGORITHMS
code_for (GetMeasurements op) = GET_MEASUREMENTS
code_for (PskExchange exchange) = PSK_EXCHANGE
code_for (PskFinish verify) = PSK_FINISH
code_for Heartbeat = HEARTBEAT
code_for (KeyUpdate op tag) = KEY_UPDATE
code_for EndSession = END_SESSION
code_for (ChunkSend chunk) = CHUNK_SEND
code_for (ChunkGet handle number) = CHUNK_GET
