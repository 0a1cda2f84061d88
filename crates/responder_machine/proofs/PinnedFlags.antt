-- What was not negotiated is not supported, and each wrong SPDMVersion is a mismatch.
use Rattle.std.proofs.Common.{refl, ◌+◌, ℕ, List, [], ◌∷◌, drop, Some, None}
use Rattle.spdm_grammar.specs.declared.messages.error_code.ErrorCode.TheVariants.{UnsupportedRequest, VersionMismatch}
use Rattle.spdm_grammar.specs.declared.told.phase.Phase.TheVariants.{Negotiated}
use Rattle.transcript.specs.Transcripts.{Negotiation}
use Rattle.spdm_grammar.specs.declared.names.spdm_version.TheConstants.{V1_0, V1_2}
use Rattle.spdm_grammar.specs.declared.names.capability.TheConstants.{CHUNK_CAP, HBEAT_CAP, KEY_UPD_CAP}
use Rattle.responder_machine.proofs.Pinned.{computed, setup, IsTable, fresh, versioned, capable, clear_with, negotiation_with, caps_with, all_caps, offer, large, opened, opened_with, verifying_with, with_large, begun, get_version, get_capabilities, negotiate_algorithms, get_measurements, psk_exchange, psk_finish, heartbeat, key_update, end_session, chunk_send, chunk_get}
use Rattle.responder_machine.specs.Place.{inside, session_place}

-- ---- Flags. The requester lacks one of them, or did not offer measurements.

abbrev without_measurements : Negotiation
without_measurements = negotiation_with setup all_caps (record offer { measurement = 0 })

abbrev without_heartbeats : Negotiation
without_heartbeats = negotiation_with setup (caps_with (KEY_UPD_CAP + CHUNK_CAP) 1024 4096) offer

abbrev without_key_updates : Negotiation
without_key_updates = negotiation_with setup (caps_with (HBEAT_CAP + CHUNK_CAP) 1024 4096) offer

abbrev without_chunks : Negotiation
without_chunks = negotiation_with setup (caps_with (HBEAT_CAP + KEY_UPD_CAP) 1024 1024) offer

no_measurements_in_clear : IsTable setup (clear_with Negotiated [] without_measurements) (
    (get_measurements 0, Some UnsupportedRequest)
    ∷ (get_measurements 255, Some UnsupportedRequest)
    ∷ (chunk_send, None)
    ∷ [])
unfolding computed
no_measurements_in_clear = refl

no_measurements_by_chunks : IsTable setup (inside (clear_with Negotiated [] without_measurements)) ((get_measurements 0, Some UnsupportedRequest) ∷ [])
unfolding computed
no_measurements_by_chunks = refl

no_measurements_in_session : IsTable setup (session_place (opened_with without_measurements)) (
    (get_measurements 0, Some UnsupportedRequest)
    ∷ (heartbeat, None)
    ∷ (key_update 1, None)
    ∷ (end_session, None)
    ∷ [])
unfolding computed
no_measurements_in_session = refl

no_heartbeats : IsTable setup (session_place (opened_with without_heartbeats)) (
    (get_measurements 0, None)
    ∷ (heartbeat, Some UnsupportedRequest)
    ∷ (key_update 1, None)
    ∷ (end_session, None)
    ∷ [])
unfolding computed
no_heartbeats = refl

no_key_updates : IsTable setup (session_place (opened_with without_key_updates)) (
    (get_measurements 0, None)
    ∷ (heartbeat, None)
    ∷ (key_update 1, Some UnsupportedRequest)
    ∷ (key_update 3, Some UnsupportedRequest)
    ∷ (end_session, None)
    ∷ [])
unfolding computed
no_key_updates = refl

no_key_updates_in_verifying : IsTable setup (session_place (verifying_with without_key_updates)) ((key_update 3, Some UnsupportedRequest) ∷ (key_update 1, Some UnsupportedRequest) ∷ [])
unfolding computed
no_key_updates_in_verifying = refl

no_chunks_in_clear : IsTable setup (clear_with Negotiated (large ∷ []) without_chunks) (
    (get_measurements 0, None)
    ∷ (chunk_send, Some UnsupportedRequest)
    ∷ (chunk_get 5 0, Some UnsupportedRequest)
    ∷ [])
unfolding computed
no_chunks_in_clear = refl

no_chunks_in_session : IsTable setup (session_place (with_large (opened_with without_chunks))) (
    (get_measurements 0, None)
    ∷ (heartbeat, None)
    ∷ (key_update 1, None)
    ∷ (chunk_get 5 0, Some UnsupportedRequest)
    ∷ [])
unfolding computed
no_chunks_in_session = refl

-- ---- Versions: 1.0 for GET_VERSION, 1.2 for all others.

abbrev of_version : ℕ → List ℕ → List ℕ
of_version version m = version ∷ drop 1 m

versions_of_get_version : IsTable setup fresh (
    (of_version V1_0 get_version, None)
    ∷ (of_version 0x00 get_version, Some VersionMismatch)
    ∷ (of_version 0x11 get_version, Some VersionMismatch)
    ∷ (of_version V1_2 get_version, Some VersionMismatch)
    ∷ (of_version 0x13 get_version, Some VersionMismatch)
    ∷ [])
unfolding computed
versions_of_get_version = refl

versions_of_get_capabilities : IsTable setup versioned (
    (of_version V1_2 get_capabilities, None)
    ∷ (of_version V1_0 get_capabilities, Some VersionMismatch)
    ∷ (of_version 0x11 get_capabilities, Some VersionMismatch)
    ∷ (of_version 0x13 get_capabilities, Some VersionMismatch)
    ∷ [])
unfolding computed
versions_of_get_capabilities = refl

versions_in_capable : IsTable setup capable (
    (of_version V1_2 negotiate_algorithms, None)
    ∷ (of_version V1_0 negotiate_algorithms, Some VersionMismatch)
    ∷ (of_version 0x13 negotiate_algorithms, Some VersionMismatch)
    ∷ [])
unfolding computed
versions_in_capable = refl

versions_in_negotiated : IsTable setup (clear_with Negotiated (large ∷ []) (negotiation_with setup all_caps offer)) (
    (of_version V1_2 (get_measurements 0), None)
    ∷ (of_version V1_0 (get_measurements 0), Some VersionMismatch)
    ∷ (of_version 0x13 (get_measurements 0), Some VersionMismatch)
    ∷ (of_version V1_0 psk_exchange, Some VersionMismatch)
    ∷ (of_version 0x13 psk_exchange, Some VersionMismatch)
    ∷ (of_version V1_2 chunk_send, None)
    ∷ (of_version V1_0 chunk_send, Some VersionMismatch)
    ∷ (of_version 0x13 chunk_send, Some VersionMismatch)
    ∷ (of_version V1_2 (chunk_get 5 0), None)
    ∷ (of_version V1_0 (chunk_get 5 0), Some VersionMismatch)
    ∷ (of_version 0x13 (chunk_get 5 0), Some VersionMismatch)
    ∷ [])
unfolding computed
versions_in_negotiated = refl

versions_in_begun : IsTable setup (session_place begun) (
    (of_version V1_0 psk_finish, Some VersionMismatch)
    ∷ (of_version 0x13 psk_finish, Some VersionMismatch)
    ∷ [])
unfolding computed
versions_in_begun = refl

versions_in_opened : IsTable setup (session_place opened) (
    (of_version V1_2 heartbeat, None)
    ∷ (of_version V1_0 heartbeat, Some VersionMismatch)
    ∷ (of_version 0x13 heartbeat, Some VersionMismatch)
    ∷ (of_version V1_2 (key_update 1), None)
    ∷ (of_version V1_0 (key_update 1), Some VersionMismatch)
    ∷ (of_version 0x13 (key_update 1), Some VersionMismatch)
    ∷ (of_version V1_2 end_session, None)
    ∷ (of_version V1_0 end_session, Some VersionMismatch)
    ∷ (of_version 0x13 end_session, Some VersionMismatch)
    ∷ [])
unfolding computed
versions_in_opened = refl
