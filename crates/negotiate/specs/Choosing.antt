-- What a responder chooses of an offer, and what a requester takes as a choice (DSP0274, "NEGOTIATE_ALGORITHMS request message format" and "Successful ALGORITHMS response message format"; which of two is preferred is this project's own).
use Rattle.std.specs.Prelude.{ℕ, Bool, true, false, ◌==◌, ◌&&◌, ◌||◌, nat_le, if◌then◌else◌, Option, Some, None}
use Rattle.spdm_basis.specs.declared.values.hash_alg.HashAlg.{HashAlg}
use Rattle.spdm_basis.specs.declared.values.hash_alg.HashAlg.TheVariants.{Sha256, Sha384}
use Rattle.spdm_basis.specs.declared.values.aead_alg.AeadAlg.{AeadAlg}
use Rattle.spdm_basis.specs.declared.values.aead_alg.AeadAlg.TheVariants.{Aes128Gcm, Aes256Gcm}
use Rattle.spdm_grammar.specs.declared.messages.choice.Choice.{Choice}
use Rattle.spdm_grammar.specs.declared.messages.choice.Pick.{Pick}
use Rattle.spdm_grammar.specs.declared.messages.choice.Pick.TheVariants.{Small, Large, Both}
use Rattle.spdm_grammar.specs.Message.{OfferMessage, ReplyMessage}
use Rattle.negotiate.specs.declared.selection.AlgPolicy.{AlgPolicy}
use Rattle.negotiate.specs.Capabilities.{has_all}
use Rattle.negotiate.specs.Tables.{tables_in, value_of}

-- A pick has the algorithm of bit 0, and that of bit 1.
abbrev pub has_small : Pick → Bool
has_small Small = true
has_small Large = false
has_small Both = true

abbrev pub has_large : Pick → Bool
has_large Small = false
has_large Large = true
has_large Both = true

-- PSK_FINISH with verify data of 48 bytes has 52, and nothing is cut into chunks inside a session: SHA-384 is used only with a responder whose DataTransferSize has room for it.
abbrev pub has_room_for_sha_384 : ℕ → Bool
has_room_for_sha_384 transfer = nat_le 52 transfer

-- The bit of a hash (bit 0 SHA-256, bit 1 SHA-384), of an AEAD (bit 0 AES-128-GCM, bit 1 AES-256-GCM).
abbrev pub hash_bit : HashAlg → ℕ
hash_bit Sha256 = 1
hash_bit Sha384 = 2

abbrev pub aead_bit : AeadAlg → ℕ
aead_bit Aes128Gcm = 1
aead_bit Aes256Gcm = 2

-- The AEADs that an offer has, in the structure of type 3, and its key schedules, in that of type 5.
abbrev pub offered_aead : OfferMessage → ℕ
offered_aead offer = value_of 3 (tables_in offer.count offer.tables)

abbrev pub offered_key_schedule : OfferMessage → ℕ
offered_key_schedule offer = value_of 5 (tables_in offer.count offer.tables)

-- The hash that a responder chooses: SHA-384 where it is offered, the responder has it and there is room for it, else SHA-256 where it is offered and the responder has it.
abbrev pub hash_choice : OfferMessage → AlgPolicy → Option HashAlg
hash_choice offer policy =
    if has_all offer.hash 2 && has_large policy.suites.hash && has_room_for_sha_384 policy.transfer then Some Sha384
    else (if has_all offer.hash 1 && has_small policy.suites.hash then Some Sha256
    else None)

-- The AEAD that it chooses: AES-256-GCM where it is offered and the responder has it, else AES-128-GCM where that holds of it.
abbrev pub aead_choice : OfferMessage → AlgPolicy → Option AeadAlg
aead_choice offer policy =
    if has_all (offered_aead offer) 2 && has_large policy.suites.aead then Some Aes256Gcm
    else (if has_all (offered_aead offer) 1 && has_small policy.suites.aead then Some Aes128Gcm
    else None)

-- A hash, an AEAD and whether to measure, where there are a hash and an AEAD.
abbrev pub choice_with : Option HashAlg → Option AeadAlg → Bool → Option Choice
choice_with None aead measure = None
choice_with (Some hash) None measure = None
choice_with (Some hash) (Some aead) measure = Some (record { hash = hash; aead = aead; measure = measure })

-- The responder's choice: none where no hash or no AEAD can be used or the key schedule of SPDM, bit 0, is not offered. It measures where its policy does and the DMTF specification, bit 0, is offered.
abbrev pub selected : OfferMessage → AlgPolicy → Option Choice
selected offer policy =
    if has_all (offered_key_schedule offer) 1
    then choice_with (hash_choice offer policy) (aead_choice offer policy) (policy.measure && has_all offer.measurement 1)
    else None

-- The hash that these bits choose of those offered: they are exactly bit 0 or exactly bit 1, and it was offered.
abbrev pub chosen_hash : ℕ → ℕ → Option HashAlg
chosen_hash offered bits =
    if bits == 1 && has_all offered 1 then Some Sha256
    else (if bits == 2 && has_all offered 2 then Some Sha384
    else None)

-- The AEAD likewise.
abbrev pub chosen_aead : ℕ → ℕ → Option AeadAlg
chosen_aead offered bits =
    if bits == 1 && has_all offered 1 then Some Aes128Gcm
    else (if bits == 2 && has_all offered 2 then Some Aes256Gcm
    else None)

-- The choice that a requester takes from a reply to its offer: none where the hash, the AEAD or the key schedule is not exactly one bit that is known and was offered, or the measurement specification is neither 0 nor 1, or 1 and not offered.
abbrev pub agreed : OfferMessage → ReplyMessage → Option Choice
agreed offer reply =
    if value_of 5 (tables_in reply.count reply.tables) == 1 && has_all (offered_key_schedule offer) 1
    && (reply.measurement == 0 || (reply.measurement == 1 && has_all offer.measurement 1))
    then choice_with (chosen_hash offer.hash reply.hash) (chosen_aead (offered_aead offer) (value_of 3 (tables_in reply.count reply.tables))) (reply.measurement == 1)
    else None
