-- Each of the eleven requests in each stage of a session, and what is refused there before it is read.
use Rattle.std.proofs.Common.{refl, ◌≡◌, List, [], ◌∷◌, true, false, Bool, Some, None}
use Rattle.std.specs.Prelude.{if◌then◌else◌, map, replicate, bytes_eq}
use Rattle.key_schedule.specs.declared.direction.Direction.TheVariants as direction
use Rattle.spdm_grammar.specs.declared.messages.error_code.ErrorCode.TheVariants.{InvalidRequest, UnexpectedRequest, DecryptError, UnsupportedRequest, RequestTooLarge, VersionMismatch}
use Rattle.spdm_machine.specs.Keys.{verify_data}
use Rattle.spdm_machine.specs.Terms.{terms_of}
use Rattle.responder_machine.proofs.Pinned.{computed, setup, free, IsTable, Row, negotiation, begun, opened, verifying, with_large, misversioned, get_version, get_capabilities, negotiate_algorithms, get_measurements, psk_exchange, psk_finish, heartbeat, key_update, end_session, chunk_send, chunk_get}
use Rattle.responder_machine.specs.Place.{session_place}
use Rattle.responder_machine.specs.Refusal.{refusal}
use Rattle.responder_machine.specs.Responder.{session_turn}
use Rattle.responder_machine.specs.Session.{Events, t1_of, tv_of}

-- ---- What each stage allows, by requests of another version.

allowed_in_begun : IsTable setup (session_place begun) (
    (misversioned get_version, Some UnexpectedRequest)
    ∷ (misversioned get_capabilities, Some UnexpectedRequest)
    ∷ (misversioned negotiate_algorithms, Some UnexpectedRequest)
    ∷ (misversioned (get_measurements 0), Some UnexpectedRequest)
    ∷ (misversioned psk_exchange, Some UnexpectedRequest)
    ∷ (misversioned psk_finish, Some VersionMismatch)
    ∷ (misversioned heartbeat, Some UnexpectedRequest)
    ∷ (misversioned (key_update 1), Some UnexpectedRequest)
    ∷ (misversioned end_session, Some UnexpectedRequest)
    ∷ (misversioned chunk_send, Some UnsupportedRequest)
    ∷ (misversioned (chunk_get 0 0), Some UnexpectedRequest)
    ∷ [])
unfolding computed
allowed_in_begun = refl

allowed_in_opened : IsTable setup (session_place opened) (
    (misversioned get_version, Some UnexpectedRequest)
    ∷ (misversioned get_capabilities, Some UnexpectedRequest)
    ∷ (misversioned negotiate_algorithms, Some UnexpectedRequest)
    ∷ (misversioned (get_measurements 0), Some VersionMismatch)
    ∷ (misversioned psk_exchange, Some UnexpectedRequest)
    ∷ (misversioned psk_finish, Some UnexpectedRequest)
    ∷ (misversioned heartbeat, Some VersionMismatch)
    ∷ (misversioned (key_update 1), Some VersionMismatch)
    ∷ (misversioned end_session, Some VersionMismatch)
    ∷ (misversioned chunk_send, Some UnsupportedRequest)
    ∷ (misversioned (chunk_get 0 0), Some UnexpectedRequest)
    ∷ [])
unfolding computed
allowed_in_opened = refl

allowed_in_verifying : IsTable setup (session_place verifying) (
    (misversioned get_version, Some UnexpectedRequest)
    ∷ (misversioned get_capabilities, Some UnexpectedRequest)
    ∷ (misversioned negotiate_algorithms, Some UnexpectedRequest)
    ∷ (misversioned (get_measurements 0), Some UnexpectedRequest)
    ∷ (misversioned psk_exchange, Some UnexpectedRequest)
    ∷ (misversioned psk_finish, Some UnexpectedRequest)
    ∷ (misversioned heartbeat, Some UnexpectedRequest)
    ∷ (misversioned (key_update 1), Some VersionMismatch)
    ∷ (misversioned end_session, Some UnexpectedRequest)
    ∷ (misversioned chunk_send, Some UnsupportedRequest)
    ∷ (misversioned (chunk_get 0 0), Some UnexpectedRequest)
    ∷ [])
unfolding computed
allowed_in_verifying = refl

-- ---- What each stage takes, by requests as they are sent.

taken_in_begun : IsTable setup (session_place begun) (
    (get_version, Some UnexpectedRequest)
    ∷ (get_capabilities, Some UnexpectedRequest)
    ∷ (negotiate_algorithms, Some UnexpectedRequest)
    ∷ (get_measurements 0, Some UnexpectedRequest)
    ∷ (psk_exchange, Some UnexpectedRequest)
    ∷ (heartbeat, Some UnexpectedRequest)
    ∷ (key_update 1, Some UnexpectedRequest)
    ∷ (end_session, Some UnexpectedRequest)
    ∷ (chunk_send, Some UnsupportedRequest)
    ∷ (chunk_get 0 0, Some UnexpectedRequest)
    ∷ [])
unfolding computed
taken_in_begun = refl

taken_in_opened : IsTable setup (session_place opened) (
    (get_version, Some UnexpectedRequest)
    ∷ (get_capabilities, Some UnexpectedRequest)
    ∷ (negotiate_algorithms, Some UnexpectedRequest)
    ∷ (get_measurements 0, None)
    ∷ (psk_exchange, Some UnexpectedRequest)
    ∷ (psk_finish, Some UnexpectedRequest)
    ∷ (heartbeat, None)
    ∷ (key_update 1, None)
    ∷ (end_session, None)
    ∷ (chunk_send, Some UnsupportedRequest)
    ∷ (chunk_get 0 0, Some UnexpectedRequest)
    ∷ [])
unfolding computed
taken_in_opened = refl

taken_in_verifying : IsTable setup (session_place verifying) (
    (get_version, Some UnexpectedRequest)
    ∷ (get_capabilities, Some UnexpectedRequest)
    ∷ (negotiate_algorithms, Some UnexpectedRequest)
    ∷ (get_measurements 0, Some UnexpectedRequest)
    ∷ (psk_exchange, Some UnexpectedRequest)
    ∷ (psk_finish, Some UnexpectedRequest)
    ∷ (heartbeat, Some UnexpectedRequest)
    ∷ (key_update 3, None)
    ∷ (end_session, Some UnexpectedRequest)
    ∷ (chunk_send, Some UnsupportedRequest)
    ∷ (chunk_get 0 0, Some UnexpectedRequest)
    ∷ [])
unfolding computed
taken_in_verifying = refl

-- PSK_FINISH in the handshake, by whether its verify data are the requester's over Tv. No tag is computed.
finish_by_verify : (equal : Bool)
    → bytes_eq (replicate 32 0) (verify_data (terms_of negotiation).choice setup.psk (t1_of begun) direction.Request (tv_of begun psk_finish)) ≡ equal
    → refusal setup (session_place begun) psk_finish free ≡ (if equal then None else Some DecryptError)
unfolding computed
finish_by_verify true is = rw is refl
finish_by_verify false is = rw is refl

-- ---- CHUNK_GET, with a large answer pending.

get_in_begun : IsTable setup (session_place (with_large begun)) ((chunk_get 5 0, Some UnexpectedRequest) ∷ (misversioned (chunk_get 5 0), Some UnexpectedRequest) ∷ [])
unfolding computed
get_in_begun = refl

get_in_opened : IsTable setup (session_place (with_large opened)) ((chunk_get 5 0, None) ∷ (misversioned (chunk_get 5 0), Some VersionMismatch) ∷ [])
unfolding computed
get_in_opened = refl

get_in_verifying : IsTable setup (session_place (with_large verifying)) ((chunk_get 5 0, Some UnexpectedRequest) ∷ (misversioned (chunk_get 5 0), Some UnexpectedRequest) ∷ [])
unfolding computed
get_in_verifying = refl

-- ---- Inner messages before they are read. An SPDM message has type 5, application data type 1.

-- An inner message and the code with which it is refused in the session.
abbrev IsInnerTable : Events → List Row → Type 0
IsInnerTable s rows = map (λ (row : Row). (session_turn setup s row.0 free).refused) rows ≡ map (λ (row : Row). row.1) rows

inner_in_begun : IsInnerTable begun (
    ([], Some InvalidRequest)
    ∷ (0 ∷ get_version, Some InvalidRequest)
    ∷ (6 ∷ get_version, Some InvalidRequest)
    ∷ (5 ∷ [], Some InvalidRequest)
    ∷ (5 ∷ heartbeat, Some UnexpectedRequest)
    ∷ (1 ∷ [], Some UnexpectedRequest)
    ∷ (1 ∷ replicate 1025 0, Some UnexpectedRequest)
    ∷ [])
unfolding computed
inner_in_begun = refl

inner_in_opened : IsInnerTable opened (
    ([], Some InvalidRequest)
    ∷ (0 ∷ heartbeat, Some InvalidRequest)
    ∷ (6 ∷ heartbeat, Some InvalidRequest)
    ∷ (5 ∷ [], Some InvalidRequest)
    ∷ (5 ∷ heartbeat, None)
    ∷ (1 ∷ [], None)
    ∷ (1 ∷ replicate 1024 0, None)
    ∷ (1 ∷ replicate 1025 0, Some RequestTooLarge)
    ∷ [])
unfolding computed
inner_in_opened = refl

inner_in_verifying : IsInnerTable verifying (
    ([], Some InvalidRequest)
    ∷ (0 ∷ heartbeat, Some InvalidRequest)
    ∷ (6 ∷ heartbeat, Some InvalidRequest)
    ∷ (5 ∷ heartbeat, Some UnexpectedRequest)
    ∷ (5 ∷ key_update 3, None)
    ∷ (1 ∷ [], Some UnexpectedRequest)
    ∷ (1 ∷ replicate 1025 0, Some UnexpectedRequest)
    ∷ [])
unfolding computed
inner_in_verifying = refl
