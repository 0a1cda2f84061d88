-- Rows of the key schedule by computation.
use Rattle.std.proofs.Common.{◌≡◌, ℕ, List, [], ◌∷◌, refl}
use Rattle.running_hash.specs.Hash.{Hash, hash_of}
use Rattle.spdm_basis.specs.declared.values.hash_alg.HashAlg.{HashAlg}
use Rattle.spdm_basis.specs.declared.values.aead_alg.AeadAlg.{AeadAlg}
use Rattle.key_schedule.specs.declared.direction.Direction.TheVariants.{Request, Response}
use Rattle.key_schedule.specs.declared.label.Label.TheVariants.{Key, RequestData}
use Rattle.key_schedule.specs.Schedule.{bin_label, secret_at, updated_secret, handshake_secret, master_secret, application_direction_secret, handshake_direction_secret, record_key, finished_key}
use Rattle.key_schedule.specs.Purpose.{key_of, verify, application_record}

-- 1000 7370646d312e3220 6b6579
pub label_of_a_key : bin_label 16 Key [] ≡ 0x10 ∷ 0x00 ∷ 0x73 ∷ 0x70 ∷ 0x64 ∷ 0x6d ∷ 0x31 ∷ 0x2e ∷ 0x32 ∷ 0x20 ∷ 0x6b ∷ 0x65 ∷ 0x79 ∷ []
label_of_a_key = refl

-- The length stands low byte first, and the context last.
pub label_with_a_context : bin_label 0x0130 RequestData (1 ∷ 2 ∷ []) ≡
    0x30 ∷ 0x01 ∷ 0x73 ∷ 0x70 ∷ 0x64 ∷ 0x6d ∷ 0x31 ∷ 0x2e ∷ 0x32 ∷ 0x20 ∷ 0x72 ∷ 0x65 ∷ 0x71 ∷ 0x20 ∷ 0x61 ∷ 0x70 ∷ 0x70 ∷ 0x20 ∷ 0x64 ∷ 0x61 ∷ 0x74 ∷ 0x61 ∷ 1 ∷ 2 ∷ []
label_with_a_context = refl

-- The second key update is the update of the first.
pub two_updates : (h : Hash) (first : List ℕ) → secret_at h first 2 ≡ updated_secret h (updated_secret h first)
unfolding secret_at
two_updates h first = refl

-- The key of records after one key update, encoded out.
pub key_after_an_update : (hash : HashAlg) (aead : AeadAlg) (psk t2 : List ℕ) → key_of hash aead (application_record psk t2 Response 1) ≡
    record_key (hash_of hash) aead (updated_secret (hash_of hash)
    (application_direction_secret (hash_of hash) (master_secret (hash_of hash) (handshake_secret (hash_of hash) psk)) Response ((hash_of hash).digest t2)))
unfolding secret_at
key_after_an_update hash aead psk t2 = refl

-- The key of the requester's verify data, encoded out.
pub key_of_verify_data : (hash : HashAlg) (aead : AeadAlg) (psk t1 : List ℕ) → key_of hash aead (verify psk t1 Request) ≡
    finished_key (hash_of hash) (handshake_direction_secret (hash_of hash) (handshake_secret (hash_of hash) psk) Request ((hash_of hash).digest t1))
unfolding secret_at
key_of_verify_data hash aead psk t1 = refl
