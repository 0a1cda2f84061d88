-- Each of the eleven requests in each phase, where it arrived in chunks.
use Rattle.std.proofs.Common.{refl, ◌≡◌, [], ◌∷◌, Some, None}
use Rattle.spdm_grammar.specs.declared.messages.error_code.ErrorCode.TheVariants.{UnexpectedRequest, SessionRequired, VersionMismatch}
use Rattle.spdm_grammar.specs.declared.told.phase.Phase.TheVariants.{Fresh, Versioned, Capable, Negotiated}
use Rattle.responder_machine.proofs.Pinned.{computed, setup, free, IsTable, fresh, versioned, capable, negotiated, clear_with, negotiation, large, misversioned, get_version, get_capabilities, negotiate_algorithms, get_measurements, psk_exchange, psk_finish, heartbeat, key_update, end_session, chunk_send, chunk_get}
use Rattle.responder_machine.proofs.VerifyLength.{length_verify}
use Rattle.responder_machine.specs.Place.{inside}
use Rattle.responder_machine.specs.Refusal.{refusal}

-- ---- What each phase allows, by requests of another version.

allowed_in_fresh : IsTable setup (inside fresh) (
    (misversioned get_version, Some UnexpectedRequest)
    ∷ (misversioned get_capabilities, Some UnexpectedRequest)
    ∷ (misversioned negotiate_algorithms, Some UnexpectedRequest)
    ∷ (misversioned (get_measurements 0), Some UnexpectedRequest)
    ∷ (misversioned psk_exchange, Some UnexpectedRequest)
    ∷ (misversioned psk_finish, Some SessionRequired)
    ∷ (misversioned heartbeat, Some SessionRequired)
    ∷ (misversioned (key_update 1), Some SessionRequired)
    ∷ (misversioned end_session, Some SessionRequired)
    ∷ (misversioned chunk_send, Some UnexpectedRequest)
    ∷ (misversioned (chunk_get 0 0), Some UnexpectedRequest)
    ∷ [])
unfolding computed
allowed_in_fresh = refl

allowed_in_versioned : IsTable setup (inside versioned) (
    (misversioned get_version, Some UnexpectedRequest)
    ∷ (misversioned get_capabilities, Some VersionMismatch)
    ∷ (misversioned negotiate_algorithms, Some UnexpectedRequest)
    ∷ (misversioned (get_measurements 0), Some UnexpectedRequest)
    ∷ (misversioned psk_exchange, Some UnexpectedRequest)
    ∷ (misversioned psk_finish, Some SessionRequired)
    ∷ (misversioned heartbeat, Some SessionRequired)
    ∷ (misversioned (key_update 1), Some SessionRequired)
    ∷ (misversioned end_session, Some SessionRequired)
    ∷ (misversioned chunk_send, Some UnexpectedRequest)
    ∷ (misversioned (chunk_get 0 0), Some UnexpectedRequest)
    ∷ [])
unfolding computed
allowed_in_versioned = refl

allowed_in_capable : IsTable setup (inside capable) (
    (misversioned get_version, Some UnexpectedRequest)
    ∷ (misversioned get_capabilities, Some UnexpectedRequest)
    ∷ (misversioned negotiate_algorithms, Some VersionMismatch)
    ∷ (misversioned (get_measurements 0), Some UnexpectedRequest)
    ∷ (misversioned psk_exchange, Some UnexpectedRequest)
    ∷ (misversioned psk_finish, Some SessionRequired)
    ∷ (misversioned heartbeat, Some SessionRequired)
    ∷ (misversioned (key_update 1), Some SessionRequired)
    ∷ (misversioned end_session, Some SessionRequired)
    ∷ (misversioned chunk_send, Some UnexpectedRequest)
    ∷ (misversioned (chunk_get 0 0), Some UnexpectedRequest)
    ∷ [])
unfolding computed
allowed_in_capable = refl

allowed_in_negotiated : IsTable setup (inside negotiated) (
    (misversioned get_version, Some UnexpectedRequest)
    ∷ (misversioned get_capabilities, Some UnexpectedRequest)
    ∷ (misversioned negotiate_algorithms, Some UnexpectedRequest)
    ∷ (misversioned (get_measurements 0), Some VersionMismatch)
    ∷ (misversioned psk_exchange, Some VersionMismatch)
    ∷ (misversioned psk_finish, Some SessionRequired)
    ∷ (misversioned heartbeat, Some SessionRequired)
    ∷ (misversioned (key_update 1), Some SessionRequired)
    ∷ (misversioned end_session, Some SessionRequired)
    ∷ (misversioned chunk_send, Some UnexpectedRequest)
    ∷ (misversioned (chunk_get 0 0), Some UnexpectedRequest)
    ∷ [])
unfolding computed
allowed_in_negotiated = refl

-- ---- What each phase takes, by requests as they are sent.

taken_in_fresh : IsTable setup (inside fresh) (
    (get_version, Some UnexpectedRequest)
    ∷ (get_capabilities, Some UnexpectedRequest)
    ∷ (negotiate_algorithms, Some UnexpectedRequest)
    ∷ (get_measurements 0, Some UnexpectedRequest)
    ∷ (psk_exchange, Some UnexpectedRequest)
    ∷ (psk_finish, Some SessionRequired)
    ∷ (heartbeat, Some SessionRequired)
    ∷ (key_update 1, Some SessionRequired)
    ∷ (end_session, Some SessionRequired)
    ∷ (chunk_send, Some UnexpectedRequest)
    ∷ (chunk_get 0 0, Some UnexpectedRequest)
    ∷ [])
unfolding computed
taken_in_fresh = refl

taken_in_versioned : IsTable setup (inside versioned) (
    (get_version, Some UnexpectedRequest)
    ∷ (get_capabilities, None)
    ∷ (negotiate_algorithms, Some UnexpectedRequest)
    ∷ (get_measurements 0, Some UnexpectedRequest)
    ∷ (psk_exchange, Some UnexpectedRequest)
    ∷ (psk_finish, Some SessionRequired)
    ∷ (heartbeat, Some SessionRequired)
    ∷ (key_update 1, Some SessionRequired)
    ∷ (end_session, Some SessionRequired)
    ∷ (chunk_send, Some UnexpectedRequest)
    ∷ (chunk_get 0 0, Some UnexpectedRequest)
    ∷ [])
unfolding computed
taken_in_versioned = refl

taken_in_capable : IsTable setup (inside capable) (
    (get_version, Some UnexpectedRequest)
    ∷ (get_capabilities, Some UnexpectedRequest)
    ∷ (negotiate_algorithms, None)
    ∷ (get_measurements 0, Some UnexpectedRequest)
    ∷ (psk_exchange, Some UnexpectedRequest)
    ∷ (psk_finish, Some SessionRequired)
    ∷ (heartbeat, Some SessionRequired)
    ∷ (key_update 1, Some SessionRequired)
    ∷ (end_session, Some SessionRequired)
    ∷ (chunk_send, Some UnexpectedRequest)
    ∷ (chunk_get 0 0, Some UnexpectedRequest)
    ∷ [])
unfolding computed
taken_in_capable = refl

taken_in_negotiated : IsTable setup (inside negotiated) (
    (get_version, Some UnexpectedRequest)
    ∷ (get_capabilities, Some UnexpectedRequest)
    ∷ (negotiate_algorithms, Some UnexpectedRequest)
    ∷ (get_measurements 0, None)
    ∷ (psk_finish, Some SessionRequired)
    ∷ (heartbeat, Some SessionRequired)
    ∷ (key_update 1, Some SessionRequired)
    ∷ (end_session, Some SessionRequired)
    ∷ (chunk_send, Some UnexpectedRequest)
    ∷ (chunk_get 0 0, Some UnexpectedRequest)
    ∷ [])
unfolding computed
taken_in_negotiated = refl

-- The length of its answer is known, without the verify data in it.
exchange_is_taken : refusal setup (inside negotiated) psk_exchange free ≡ None
unfolding computed
exchange_is_taken = rw length_verify refl

-- ---- CHUNK_GET does not come by chunks, with a large answer pending either.

get_in_fresh : IsTable setup (inside (clear_with Fresh (large ∷ []) negotiation)) ((chunk_get 5 0, Some UnexpectedRequest) ∷ [])
unfolding computed
get_in_fresh = refl

get_in_versioned : IsTable setup (inside (clear_with Versioned (large ∷ []) negotiation)) ((chunk_get 5 0, Some UnexpectedRequest) ∷ [])
unfolding computed
get_in_versioned = refl

get_in_capable : IsTable setup (inside (clear_with Capable (large ∷ []) negotiation)) ((chunk_get 5 0, Some UnexpectedRequest) ∷ [])
unfolding computed
get_in_capable = refl

get_in_negotiated : IsTable setup (inside (clear_with Negotiated (large ∷ []) negotiation)) ((chunk_get 5 0, Some UnexpectedRequest) ∷ [])
unfolding computed
get_in_negotiated = refl
