-- Which code a request gets that fails two tests: that of the earlier one. And which codes are those of requests.
use Rattle.std.proofs.Common.{refl, ◌≡◌, ℕ, List, [], ◌∷◌, ◌++◌, take, true, false, Bool, Option, Some, None}
use Rattle.std.specs.Prelude.{◌==◌, map, not}
use Rattle.std.specs.List.{filter, range_with_len}
use Rattle.spdm_grammar.specs.Message.RequestMessage.{PskExchange, ChunkSend}
use Rattle.spdm_grammar.specs.Requests.{canonical_request}
use Rattle.spdm_grammar.specs.declared.messages.error_code.ErrorCode.{ErrorCode}
use Rattle.spdm_grammar.specs.declared.messages.error_code.ErrorCode.TheVariants.{InvalidRequest, UnexpectedRequest, UnsupportedRequest, SessionRequired, ResponseTooLarge, RequestTooLarge, VersionMismatch}
use Rattle.spdm_grammar.specs.declared.told.phase.Phase.TheVariants.{Negotiated}
use Rattle.transcript.specs.Transcripts.{Negotiation}
use Rattle.responder_machine.proofs.Pinned.{computed, setup, free, IsTable, clear_with, negotiation_with, caps_with, all_caps, offer, exchange, only_chunk, large, fresh, capable, negotiated, begun, opened, opened_with, misversioned, get_version, get_capabilities, negotiate_algorithms, get_measurements, psk_exchange, psk_finish, heartbeat, key_update, end_session, chunk_send, chunk_get}
use Rattle.responder_machine.proofs.VerifyLength.{length_verify}
use Rattle.responder_machine.specs.Place.{Place, inside, session_place}
use Rattle.responder_machine.specs.Refusal.{refusal, code_of}

-- ---- The codes of requests.

abbrev is_unsupported : Option ErrorCode → Bool
is_unsupported (Some UnsupportedRequest) = true
is_unsupported _ = false

-- The codes that are supported at a place, of the numbers of one byte.
abbrev supported_at : Place → List ℕ
supported_at p = filter (λ (code : ℕ). not (is_unsupported (refusal setup p (0x12 ∷ code ∷ 0 ∷ 0 ∷ []) free))) (range_with_len 0 256)

-- By rising number.
abbrev known_codes : List ℕ
known_codes = map code_of (get_version ∷ chunk_send ∷ chunk_get 0 0 ∷ get_measurements 0 ∷ get_capabilities ∷ negotiate_algorithms ∷ psk_exchange ∷ psk_finish ∷ heartbeat ∷ key_update 1 ∷ end_session ∷ [])

-- Their numbers in DSP0274.
numbers_of_codes : known_codes ≡ 0x84 ∷ 0x85 ∷ 0x86 ∷ 0xe0 ∷ 0xe1 ∷ 0xe3 ∷ 0xe6 ∷ 0xe7 ∷ 0xe8 ∷ 0xe9 ∷ 0xec ∷ []
numbers_of_codes = refl

supported_in_clear : supported_at negotiated ≡ known_codes
unfolding computed
supported_in_clear = refl

supported_by_chunks : supported_at (inside capable) ≡ known_codes
unfolding computed
supported_by_chunks = refl

-- CHUNK_SEND is none of those of a session.
supported_in_session : supported_at (session_place opened) ≡ filter (λ (code : ℕ). not (code == code_of chunk_send)) known_codes
unfolding computed
supported_in_session = refl

-- ---- Two tests that fail.

abbrev unknown : List ℕ
unknown = 0x12 ∷ 0x81 ∷ 0 ∷ 0 ∷ []

abbrev without_measurements : Negotiation
without_measurements = negotiation_with setup all_caps (record offer { measurement = 0 })

abbrev without_options : Negotiation
without_options = negotiation_with setup (caps_with 0 1024 1024) (record offer { measurement = 0 })

-- Shorter than four bytes, before longer than the limit.
short_before_long : IsTable (record setup { transfer = 2; max = 2 }) fresh ((take 3 get_version, Some InvalidRequest) ∷ [])
unfolding computed
short_before_long = refl

-- Longer than the limit, before an unknown code, a request of sessions, one of another phase, another version, and no
-- encoding.
long_before_others : IsTable (record setup { transfer = 4; max = 4 }) fresh (
    (unknown ++ 0 ∷ [], Some RequestTooLarge)
    ∷ (heartbeat ++ 0 ∷ [], Some RequestTooLarge)
    ∷ (get_capabilities, Some RequestTooLarge)
    ∷ (misversioned get_version ++ 0 ∷ [], Some RequestTooLarge)
    ∷ (get_version ++ 0 ∷ [], Some RequestTooLarge)
    ∷ [])
unfolding computed
long_before_others = refl

-- An unknown code, before another version.
unknown_before_version : IsTable setup fresh ((unknown, Some UnsupportedRequest) ∷ (misversioned unknown, Some UnsupportedRequest) ∷ [])
unfolding computed
unknown_before_version = refl

unknown_in_session : IsTable setup (session_place begun) ((unknown, Some UnsupportedRequest) ∷ (misversioned unknown, Some UnsupportedRequest) ∷ [])
unfolding computed
unknown_in_session = refl

-- A request of sessions, before its version and its encoding.
session_before_others : IsTable setup fresh ((misversioned heartbeat, Some SessionRequired) ∷ (take 4 psk_finish, Some SessionRequired) ∷ (key_update 0, Some SessionRequired) ∷ [])
unfolding computed
session_before_others = refl

-- CHUNK_SEND in a session, before what its stage allows, its version and its encoding.
chunk_before_others : IsTable setup (session_place begun) ((chunk_send, Some UnsupportedRequest) ∷ (misversioned chunk_send, Some UnsupportedRequest) ∷ (take 4 chunk_send, Some UnsupportedRequest) ∷ [])
unfolding computed
chunk_before_others = refl

-- What the phase or the stage does not allow, before the version, the encoding and the flags.
phase_before_others : IsTable setup (clear_with Negotiated [] without_options) (
    (misversioned get_capabilities, Some UnexpectedRequest)
    ∷ (take 4 get_capabilities, Some UnexpectedRequest)
    ∷ (chunk_get 0 0, Some UnexpectedRequest)
    ∷ [])
unfolding computed
phase_before_others = refl

stage_before_others : IsTable setup (session_place (opened_with without_options)) (
    (misversioned psk_finish, Some UnexpectedRequest)
    ∷ (take 4 psk_finish, Some UnexpectedRequest)
    ∷ (chunk_get 0 0, Some UnexpectedRequest)
    ∷ [])
unfolding computed
stage_before_others = refl

-- The version, before the encoding and the flags.
version_before_others : IsTable setup (session_place (opened_with without_options)) (
    (misversioned (key_update 0), Some VersionMismatch)
    ∷ (misversioned heartbeat, Some VersionMismatch)
    ∷ [])
unfolding computed
version_before_others = refl

-- The encoding, before the flags.
spelling_before_flags : IsTable setup (session_place (opened_with without_options)) (
    (key_update 0, Some InvalidRequest)
    ∷ (heartbeat ++ 0 ∷ [], Some InvalidRequest)
    ∷ (0x12 ∷ code_of (get_measurements 0) ∷ 1 ∷ 0 ∷ [], Some InvalidRequest)
    ∷ [])
unfolding computed
spelling_before_flags = refl

spelling_before_flags_in_clear : IsTable setup (clear_with Negotiated (large ∷ []) without_options) (
    (get_measurements 0 ++ 0 ∷ [], Some InvalidRequest)
    ∷ (take 4 chunk_send, Some InvalidRequest)
    ∷ (take 5 (chunk_get 5 0), Some InvalidRequest)
    ∷ [])
unfolding computed
spelling_before_flags_in_clear = refl

-- The flags, before the contents.
flags_before_contents : IsTable setup (clear_with Negotiated (large ∷ []) without_options) (
    (get_measurements 2, Some UnsupportedRequest)
    ∷ (canonical_request (ChunkSend (record only_chunk { large = Some 4097 })), Some UnsupportedRequest)
    ∷ (canonical_request (ChunkSend (record only_chunk { last = false })), Some UnsupportedRequest)
    ∷ (chunk_get 4 0, Some UnsupportedRequest)
    ∷ (chunk_get 5 1, Some UnsupportedRequest)
    ∷ [])
unfolding computed
flags_before_contents = refl

flags_before_operation : IsTable setup (session_place (opened_with without_options)) ((key_update 3, Some UnsupportedRequest) ∷ (get_measurements 2, Some UnsupportedRequest) ∷ [])
unfolding computed
flags_before_operation = refl

-- The contents, before the length of the answer: one to an absent index has 42 bytes, and PSK_EXCHANGE_RSP 76.
abbrev small : Place
small = clear_with Negotiated [] (negotiation_with setup (caps_with 0 42 42) offer)

contents_before_length : refusal setup small (get_measurements 2) (record free { measured_opaque = 0 ∷ [] }) ≡ Some InvalidRequest
unfolding computed
contents_before_length = refl

contents_before_session_limit : IsTable setup (record small { past_handshake = 4 }) ((canonical_request (PskExchange (record exchange { hint = [] })), Some InvalidRequest) ∷ [])
unfolding computed
contents_before_session_limit = refl

-- The length of the answer, before the number of sessions.
length_before_session_limit : refusal setup (record small { past_handshake = 4 }) psk_exchange free ≡ Some ResponseTooLarge
unfolding computed
length_before_session_limit = rw length_verify refl

-- PSK_EXCHANGE_RSP of 76 bytes, at the max size and one more.
exchange_at_max_size : refusal setup (clear_with Negotiated [] (negotiation_with setup (caps_with 0 76 76) offer)) psk_exchange free ≡ None
unfolding computed
exchange_at_max_size = rw length_verify refl

exchange_over_max_size : refusal setup (clear_with Negotiated [] (negotiation_with setup (caps_with 0 75 75) offer)) psk_exchange free ≡ Some ResponseTooLarge
unfolding computed
exchange_over_max_size = rw length_verify refl
