-- What is sent, byte for byte: errors with their version, data and extended data, acknowledgements of chunks,
-- and short answers.
use Rattle.std.proofs.Common.{refl, ◌≡◌, ℕ, List, [], ◌∷◌, ◌++◌, take, length, replicate, true, false, Some}
use Rattle.std.specs.Prelude.{map}
use Rattle.spdm_grammar.specs.Message.RequestMessage.{ChunkSend}
use Rattle.spdm_grammar.specs.Requests.{canonical_request}
use Rattle.spdm_grammar.specs.declared.told.phase.Phase.TheVariants.{Capable}
use Rattle.spdm_grammar.specs.declared.names.capability.TheConstants.{CHUNK_CAP}
use Rattle.responder_machine.proofs.Pinned.{computed, setup, free, clear_with, negotiation_with, caps_with, offer, fresh, versioned, capable, negotiated, opened, verifying, opened_with, misversioned, get_version, get_capabilities, negotiate_algorithms, get_measurements, psk_exchange, psk_finish, heartbeat, key_update, end_session, chunk_send}
use Rattle.responder_machine.proofs.VerifyLength.{length_verify}
use Rattle.responder_machine.specs.Handling.{turn_of}
use Rattle.responder_machine.specs.Place.{Place, session_place}
use Rattle.responder_machine.specs.Setup.{RspSetup}

-- At a place each message is answered by what stands beside it. The free handle is 9.
abbrev Reply : Type 0
Reply = List ℕ × List ℕ

abbrev AreReplies : RspSetup → Place → List Reply → Type 0
AreReplies r p rows = map (λ (row : Reply). (turn_of r p row.0 (record free { handle = 9 })).reply) rows ≡ map (λ (row : Reply). row.1) rows

-- ---- ERROR: version 1.0 in phase Fresh, and 1.2 in all others; the request's code as data for
-- UnsupportedRequest alone.

errors_in_fresh : AreReplies setup fresh (
    (get_capabilities, 0x10 ∷ 0x7f ∷ 0x04 ∷ 0x00 ∷ [])
    ∷ (take 3 get_version, 0x10 ∷ 0x7f ∷ 0x01 ∷ 0x00 ∷ [])
    ∷ (0x12 ∷ 0x81 ∷ 0 ∷ 0 ∷ [], 0x10 ∷ 0x7f ∷ 0x07 ∷ 0x81 ∷ [])
    ∷ (heartbeat, 0x10 ∷ 0x7f ∷ 0x0b ∷ 0x00 ∷ [])
    ∷ (misversioned get_version, 0x10 ∷ 0x7f ∷ 0x41 ∷ 0x00 ∷ [])
    ∷ (replicate 1025 0, 0x10 ∷ 0x7f ∷ 0x0e ∷ 0x00 ∷ [])
    ∷ [])
unfolding computed
errors_in_fresh = refl

errors_in_versioned : AreReplies setup versioned ((negotiate_algorithms, 0x12 ∷ 0x7f ∷ 0x04 ∷ 0x00 ∷ []) ∷ (0x12 ∷ 0x81 ∷ 0 ∷ 0 ∷ [], 0x12 ∷ 0x7f ∷ 0x07 ∷ 0x81 ∷ []) ∷ [])
unfolding computed
errors_in_versioned = refl

errors_in_capable : AreReplies setup capable ((get_capabilities, 0x12 ∷ 0x7f ∷ 0x04 ∷ 0x00 ∷ []) ∷ [])
unfolding computed
errors_in_capable = refl

errors_in_negotiated : AreReplies setup negotiated (
    (get_capabilities, 0x12 ∷ 0x7f ∷ 0x04 ∷ 0x00 ∷ [])
    ∷ (psk_finish, 0x12 ∷ 0x7f ∷ 0x0b ∷ 0x00 ∷ [])
    ∷ (get_measurements 2, 0x12 ∷ 0x7f ∷ 0x01 ∷ 0x00 ∷ [])
    ∷ [])
unfolding computed
errors_in_negotiated = refl

errors_in_session : AreReplies setup (session_place opened) (
    (chunk_send, 0x12 ∷ 0x7f ∷ 0x07 ∷ 0x85 ∷ [])
    ∷ (get_version, 0x12 ∷ 0x7f ∷ 0x04 ∷ 0x00 ∷ [])
    ∷ (key_update 3, 0x12 ∷ 0x7f ∷ 0x04 ∷ 0x00 ∷ [])
    ∷ [])
unfolding computed
errors_in_session = refl

missing_flags : AreReplies setup (session_place (opened_with (negotiation_with setup (caps_with 0 1024 1024) (record offer { measurement = 0 })))) (
    (get_measurements 0, 0x12 ∷ 0x7f ∷ 0x07 ∷ 0xe0 ∷ [])
    ∷ (heartbeat, 0x12 ∷ 0x7f ∷ 0x07 ∷ 0xe8 ∷ [])
    ∷ (key_update 1, 0x12 ∷ 0x7f ∷ 0x07 ∷ 0xe9 ∷ [])
    ∷ [])
unfolding computed
missing_flags = refl

-- SessionLimitExceeded. ResponseTooLarge has the length of the answer, and LargeResponse its handle.
session_limit : (turn_of setup (record negotiated { past_handshake = 4 }) psk_exchange free).reply ≡ 0x12 ∷ 0x7f ∷ 0x0a ∷ 0x00 ∷ []
unfolding computed
session_limit = rw length_verify refl

too_long : AreReplies setup (clear_with Capable [] (negotiation_with setup (caps_with CHUNK_CAP 42 51) offer)) ((negotiate_algorithms, 0x12 ∷ 0x7f ∷ 0x0d ∷ 0x00 ∷ 0x34 ∷ 0x00 ∷ 0x00 ∷ 0x00 ∷ []) ∷ [])
unfolding computed
too_long = refl

by_handle : AreReplies setup (clear_with Capable [] (negotiation_with setup (caps_with CHUNK_CAP 42 52) offer)) ((negotiate_algorithms, 0x12 ∷ 0x7f ∷ 0x0f ∷ 0x00 ∷ 0x09 ∷ []) ∷ [])
unfolding computed
by_handle = refl

-- ---- Acknowledgements. A chunk that is not the last is acknowledged without response, and the last one with
-- what the request that it carries leads to. The mark of an early error is 0 in each.

abbrev carrying : List ℕ → List ℕ
carrying m = canonical_request (ChunkSend (record { last = true; handle = 7; number = 0; large = Some (length m); chunk = m }))

abbrev beginning : List ℕ
beginning = canonical_request (ChunkSend (record { last = false; handle = 7; number = 0; large = Some 48; chunk = take 26 negotiate_algorithms }))

acknowledgements : AreReplies setup capable (
    (beginning, 0x12 ∷ 0x05 ∷ 0x00 ∷ 0x07 ∷ 0x00 ∷ 0x00 ∷ [])
    ∷ (carrying get_version, 0x12 ∷ 0x05 ∷ 0x00 ∷ 0x07 ∷ 0x00 ∷ 0x00 ∷ 0x12 ∷ 0x7f ∷ 0x04 ∷ 0x00 ∷ [])
    ∷ (carrying (take 2 get_version), 0x12 ∷ 0x05 ∷ 0x00 ∷ 0x07 ∷ 0x00 ∷ 0x00 ∷ 0x12 ∷ 0x7f ∷ 0x01 ∷ 0x00 ∷ [])
    ∷ (carrying heartbeat, 0x12 ∷ 0x05 ∷ 0x00 ∷ 0x07 ∷ 0x00 ∷ 0x00 ∷ 0x12 ∷ 0x7f ∷ 0x0b ∷ 0x00 ∷ [])
    ∷ (carrying (0x12 ∷ 0x81 ∷ 0 ∷ 0 ∷ []), 0x12 ∷ 0x05 ∷ 0x00 ∷ 0x07 ∷ 0x00 ∷ 0x00 ∷ 0x12 ∷ 0x7f ∷ 0x07 ∷ 0x81 ∷ [])
    ∷ [])
unfolding computed
acknowledgements = refl

carried_answers : AreReplies setup (clear_with Capable [] (negotiation_with setup (caps_with CHUNK_CAP 57 57) offer)) ((carrying negotiate_algorithms, 0x12 ∷ 0x05 ∷ 0x00 ∷ 0x07 ∷ 0x00 ∷ 0x00 ∷ 0x12 ∷ 0x7f ∷ 0x0f ∷ 0x00 ∷ 0x09 ∷ []) ∷ [])
unfolding computed
carried_answers = refl

carried_too_long : AreReplies setup (clear_with Capable [] (negotiation_with setup (caps_with CHUNK_CAP 51 51) offer)) ((carrying negotiate_algorithms, 0x12 ∷ 0x05 ∷ 0x00 ∷ 0x07 ∷ 0x00 ∷ 0x00 ∷ 0x12 ∷ 0x7f ∷ 0x0d ∷ 0x00 ∷ 0x34 ∷ 0x00 ∷ 0x00 ∷ 0x00 ∷ []) ∷ [])
unfolding computed
carried_too_long = refl

-- ---- Short answers of a session, and measurements.

answers_in_opened : AreReplies setup (session_place opened) (
    (heartbeat, 0x12 ∷ 0x68 ∷ 0x00 ∷ 0x00 ∷ [])
    ∷ (key_update 1, 0x12 ∷ 0x69 ∷ 0x01 ∷ 0x00 ∷ [])
    ∷ (key_update 2, 0x12 ∷ 0x69 ∷ 0x02 ∷ 0x00 ∷ [])
    ∷ (end_session, 0x12 ∷ 0x6c ∷ 0x00 ∷ 0x00 ∷ [])
    ∷ (get_measurements 0, (0x12 ∷ 0x60 ∷ 0x02 ∷ 0x00 ∷ 0x00 ∷ 0x00 ∷ 0x00 ∷ 0x00 ∷ []) ++ replicate 32 0 ++ 0x00 ∷ 0x00 ∷ [])
    ∷ (get_measurements 3, (0x12 ∷ 0x60 ∷ 0x00 ∷ 0x00 ∷ 0x01 ∷ 0x09 ∷ 0x00 ∷ 0x00 ∷ 0x03 ∷ 0x01 ∷ 0x05 ∷ 0x00 ∷ 0x01 ∷ 0x02 ∷ 0x00 ∷ 0x09 ∷ 0x09 ∷ []) ++ replicate 32 0 ++ 0x00 ∷ 0x00 ∷ [])
    ∷ [])
unfolding computed
answers_in_opened = refl

answers_in_verifying : AreReplies setup (session_place verifying) ((key_update 3, 0x12 ∷ 0x69 ∷ 0x03 ∷ 0x00 ∷ []) ∷ [])
unfolding computed
answers_in_verifying = refl
