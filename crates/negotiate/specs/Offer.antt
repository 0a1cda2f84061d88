-- The offer that a requester writes (DSP0274, "NEGOTIATE_ALGORITHMS request message format"; what it offers is this project's own).
use Rattle.std.specs.Prelude.{ℕ, ◌+◌, ◌==◌, ◌&&◌, if◌then◌else◌, List, [], ◌∷◌, Option, Some, None}
use Rattle.spdm_grammar.specs.declared.messages.choice.Pick.{Pick}
use Rattle.spdm_grammar.specs.declared.messages.choice.Suites.{Suites}
use Rattle.spdm_grammar.specs.Message.{OfferMessage}
use Rattle.negotiate.specs.Choosing.{has_small, has_large, has_room_for_sha_384}

-- The bits of a pick: bit 0 and bit 1.
abbrev pub pick_bits : Pick → ℕ
pick_bits pick = (if has_small pick then 1 else 0) + (if has_large pick then 2 else 0)

-- The hashes that are offered to a responder of this DataTransferSize: those of the pick, and SHA-384 only where there is room for it.
abbrev pub hash_offer : Pick → ℕ → ℕ
hash_offer pick transfer = (if has_small pick then 1 else 0) + (if has_large pick && has_room_for_sha_384 transfer then 2 else 0)

-- The four structures of an offer: no DHE group, the AEADs, no signature of the requester, and the key schedule of SPDM.
abbrev pub offer_tables : ℕ → List ℕ
offer_tables aead = 2 ∷ 0x20 ∷ 0 ∷ 0 ∷ 3 ∷ 0x20 ∷ aead ∷ 0 ∷ 4 ∷ 0x20 ∷ 0 ∷ 0 ∷ 5 ∷ 0x20 ∷ 1 ∷ 0 ∷ []

-- The offer: DMTF measurements, the opaque data format 1 (bit 1 of OtherParamsSupport), no signature algorithm, the hashes, no external entry, and the structures. There is none where it would offer no hash.
abbrev pub offer_of : Suites → ℕ → Option OfferMessage
offer_of suites transfer =
    if hash_offer suites.hash transfer == 0 then None
    else Some (record { measurement = 1; other = 2; asym = 0; hash = hash_offer suites.hash transfer; ext_asym = []; ext_hash = []; count = 4; tables = offer_tables (pick_bits suites.aead) })
