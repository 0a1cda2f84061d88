-- What is refused of the contents of a request, one rule after another.
use Rattle.std.proofs.Common.{refl, ◌≡◌, ◌+◌, ℕ, List, [], ◌∷◌, ◌++◌, take, replicate, Some, None, length-append}
use Rattle.sha2.proofs.Facts256.{length-sha256}
use Rattle.spdm_grammar.specs.Message.{OfferMessage, ExchangeMessage}
use Rattle.spdm_grammar.specs.Message.RequestMessage.{GetCapabilities, NegotiateAlgorithms, PskExchange}
use Rattle.spdm_grammar.specs.Requests.{canonical_request}
use Rattle.spdm_grammar.specs.declared.messages.capabilities.Caps.{Caps}
use Rattle.spdm_grammar.specs.declared.messages.error_code.ErrorCode.TheVariants.{InvalidRequest, UnexpectedRequest, SessionLimitExceeded}
use Rattle.spdm_grammar.specs.declared.told.phase.Phase.TheVariants.{Negotiated}
use Rattle.spdm_grammar.specs.declared.names.capability.TheConstants.{ENCRYPT_CAP, MAC_CAP, PSK_CAP, PSK_CAP_WITH_CONTEXT}
use Rattle.responder_machine.proofs.Pinned.{computed, setup, free, IsTable, versioned, capable, negotiated, clear_with, negotiation_with, all_caps, offer, exchange, caps_with, opened, verifying, get_capabilities, negotiate_algorithms, get_measurements, psk_exchange, key_update}
use Rattle.responder_machine.proofs.VerifyLength.{length_verify}
use Rattle.responder_machine.specs.Place.{Place, session_place}
use Rattle.responder_machine.specs.Refusal.{refusal}

-- ---- Capabilities that do not go together.

abbrev telling : Caps → List ℕ
telling caps = canonical_request (GetCapabilities caps)

-- Sizes of 42 at least, the max size not below the transfer size, PSK_CAP 01, ENCRYPT_CAP and MAC_CAP.
capabilities : IsTable setup versioned (
    (telling all_caps, None)
    ∷ (telling (caps_with 0 42 42), None)
    ∷ (telling (caps_with 0 41 42), Some InvalidRequest)
    ∷ (telling (caps_with 0 43 42), Some InvalidRequest)
    ∷ (telling (record all_caps { flags = ENCRYPT_CAP + MAC_CAP + PSK_CAP }), None)
    ∷ (telling (record all_caps { flags = ENCRYPT_CAP + MAC_CAP }), Some InvalidRequest)
    ∷ (telling (record all_caps { flags = ENCRYPT_CAP + MAC_CAP + PSK_CAP_WITH_CONTEXT }), Some InvalidRequest)
    ∷ (telling (record all_caps { flags = ENCRYPT_CAP + PSK_CAP }), Some InvalidRequest)
    ∷ (telling (record all_caps { flags = MAC_CAP + PSK_CAP }), Some InvalidRequest)
    ∷ (take 19 get_capabilities, Some InvalidRequest)
    ∷ (get_capabilities ++ 0 ∷ [], Some InvalidRequest)
    ∷ [])
unfolding computed
capabilities = refl

-- ---- Offers of which no choice can be made.

abbrev offering : OfferMessage → List ℕ
offering o = canonical_request (NegotiateAlgorithms o)

-- A hash and an AEAD that the responder has, and the key schedule of SPDM. Measurements may be left out.
offers : IsTable setup capable (
    (offering offer, None)
    ∷ (offering (record offer { measurement = 0 }), None)
    ∷ (offering (record offer { hash = 3 }), None)
    ∷ (offering (record offer { hash = 0 }), Some InvalidRequest)
    ∷ (offering (record offer { hash = 2 }), Some InvalidRequest)
    ∷ (offering (record offer { count = 2; tables = 3 ∷ 0x20 ∷ 1 ∷ 0 ∷ 5 ∷ 0x20 ∷ 1 ∷ 0 ∷ [] }), None)
    ∷ (offering (record offer { count = 2; tables = 3 ∷ 0x20 ∷ 2 ∷ 0 ∷ 5 ∷ 0x20 ∷ 1 ∷ 0 ∷ [] }), Some InvalidRequest)
    ∷ (offering (record offer { count = 1; tables = 5 ∷ 0x20 ∷ 1 ∷ 0 ∷ [] }), Some InvalidRequest)
    ∷ (offering (record offer { count = 1; tables = 3 ∷ 0x20 ∷ 1 ∷ 0 ∷ [] }), Some InvalidRequest)
    ∷ (offering (record offer { count = 2; tables = 3 ∷ 0x20 ∷ 1 ∷ 0 ∷ 5 ∷ 0x20 ∷ 0 ∷ 0 ∷ [] }), Some InvalidRequest)
    ∷ (take 47 negotiate_algorithms, Some InvalidRequest)
    ∷ [])
unfolding computed
offers = refl

-- ---- Measurements: 0 asks how many there are, 255 for all, and any other number for the block of that index.

measured_in_clear : IsTable setup negotiated (
    (get_measurements 0, None)
    ∷ (get_measurements 1, None)
    ∷ (get_measurements 2, Some InvalidRequest)
    ∷ (get_measurements 3, None)
    ∷ (get_measurements 4, Some InvalidRequest)
    ∷ (get_measurements 254, Some InvalidRequest)
    ∷ (get_measurements 255, None)
    ∷ [])
unfolding computed
measured_in_clear = refl

measured_in_session : IsTable setup (session_place opened) (
    (get_measurements 1, None)
    ∷ (get_measurements 2, Some InvalidRequest)
    ∷ (get_measurements 255, None)
    ∷ [])
unfolding computed
measured_in_session = refl

-- ---- PSK_EXCHANGE: its hint is the configured one, and it asks for no summary without measurements.

abbrev exchanging : ExchangeMessage → List ℕ
exchanging e = canonical_request (PskExchange e)

exchanges : IsTable setup negotiated (
    (exchanging (record exchange { hint = [] }), Some InvalidRequest)
    ∷ (exchanging (record exchange { hint = 0x72 ∷ [] }), Some InvalidRequest)
    ∷ (exchanging (record exchange { hint = 0x71 ∷ 0x71 ∷ [] }), Some InvalidRequest)
    ∷ (exchanging (record exchange { summary = 2 }), Some InvalidRequest)
    ∷ (exchanging (record exchange { context = replicate 31 0 }), Some InvalidRequest)
    ∷ [])
unfolding computed
exchanges = refl

abbrev unmeasured : Place
unmeasured = clear_with Negotiated [] (negotiation_with setup all_caps (record offer { measurement = 0 }))

summaries_without_measurements : IsTable setup unmeasured (
    (exchanging (record exchange { summary = 1 }), Some InvalidRequest)
    ∷ (exchanging (record exchange { summary = 255 }), Some InvalidRequest)
    ∷ [])
unfolding computed
summaries_without_measurements = refl

no_summary_without_measurements : refusal setup unmeasured psk_exchange free ≡ None
unfolding computed
no_summary_without_measurements = rw length_verify refl

-- Beside four established sessions no exchange is taken, beside three it is.
fourth_session : refusal setup (record negotiated { past_handshake = 3 }) psk_exchange free ≡ None
unfolding computed
fourth_session = rw length_verify refl

fifth_session : refusal setup (record negotiated { past_handshake = 4 }) psk_exchange free ≡ Some SessionLimitExceeded
unfolding computed
fifth_session = rw length_verify refl

-- The limit is one of PSK_EXCHANGE alone.
beside_four_sessions : IsTable setup (record negotiated { past_handshake = 4 }) ((get_measurements 0, None) ∷ [])
unfolding computed
beside_four_sessions = refl

-- ---- KEY_UPDATE: UpdateKey 1 and UpdateAllKeys 2 in Open, VerifyNewKey 3 in Verifying.

updates_in_opened : IsTable setup (session_place opened) (
    (key_update 0, Some InvalidRequest)
    ∷ (key_update 1, None)
    ∷ (key_update 2, None)
    ∷ (key_update 3, Some UnexpectedRequest)
    ∷ (key_update 4, Some InvalidRequest)
    ∷ [])
unfolding computed
updates_in_opened = refl

updates_in_verifying : IsTable setup (session_place verifying) (
    (key_update 0, Some InvalidRequest)
    ∷ (key_update 1, Some UnexpectedRequest)
    ∷ (key_update 2, Some UnexpectedRequest)
    ∷ (key_update 3, None)
    ∷ (key_update 4, Some InvalidRequest)
    ∷ [])
unfolding computed
updates_in_verifying = refl

-- A summary of all measurements, with measurements.
summary_with_measurements : refusal setup negotiated (exchanging (record exchange { summary = 255 })) free ≡ None
unfolding computed
summary_with_measurements = simp (length-append, length-sha256, length_verify) refl
