-- The key schedule of a session under a pre-shared key (DSP0274, "Key schedule"), over the hash function h of the session. TH1 and TH2 are the hashes of the transcripts T1 and T2.
use Rattle.std.specs.Prelude.{ℕ, zero, suc, List, [], ◌++◌, replicate, codes}
use Rattle.std.specs.Int.{w16, to_le_bytes}
use Rattle.spdm_basis.specs.Sizes.{key_size}
use Rattle.spdm_basis.specs.declared.values.aead_alg.AeadAlg.{AeadAlg}
use Rattle.running_hash.specs.Hash.{Hash}
use Rattle.hmac_hkdf.specs.Hmac.{hmac}
use Rattle.hmac_hkdf.specs.Hkdf.{expand}
use Rattle.key_schedule.specs.Labels.{label_text, handshake_label, application_label}
use Rattle.key_schedule.specs.declared.direction.Direction.{Direction}
use Rattle.key_schedule.specs.declared.label.Label.{Label}
use Rattle.key_schedule.specs.declared.label.Label.TheVariants.{Derived, Key, Iv, Finished, Update}

-- BinConcat: a length as two bytes, little-endian, the text "spdm1.2 ", the text of a label, and a context.
abbrev pub bin_label : ℕ → Label → List ℕ → List ℕ
bin_label len label context = to_le_bytes w16 len ++ codes "spdm1.2 " ++ label_text label ++ context

-- HKDF-Expand of a secret to a length, for a label and a context.
abbrev pub derived : Hash → List ℕ → ℕ → Label → List ℕ → List ℕ
derived h secret len label context = expand h secret (bin_label len label context) len

-- As many zero bytes as the hash is long.
abbrev pub zeros : Hash → List ℕ
zeros h = replicate h.size 0

-- The handshake secret: HMAC of the pre-shared key under zeros.
abbrev pub handshake_secret : Hash → List ℕ → List ℕ
handshake_secret h psk = hmac h (zeros h) psk

-- Salt1, from the handshake secret.
abbrev pub salt_1 : Hash → List ℕ → List ℕ
salt_1 h secret = derived h secret h.size Derived []

-- The master secret: HMAC of zeros under Salt1, from the handshake secret.
abbrev pub master_secret : Hash → List ℕ → List ℕ
master_secret h secret = hmac h (salt_1 h secret) (zeros h)

-- The secret of a direction during the handshake, from the handshake secret and TH1.
abbrev pub handshake_direction_secret : Hash → List ℕ → Direction → List ℕ → List ℕ
handshake_direction_secret h secret direction th1 = derived h secret h.size (handshake_label direction) th1

-- The first secret of a direction after the handshake, from the master secret and TH2.
abbrev pub application_direction_secret : Hash → List ℕ → Direction → List ℕ → List ℕ
application_direction_secret h master direction th2 = derived h master h.size (application_label direction) th2

-- The secret that follows a secret of a direction by a key update.
abbrev pub updated_secret : Hash → List ℕ → List ℕ
updated_secret h secret = derived h secret h.size Update []

-- The secret of a direction after as many key updates as the epoch counts.
unfoldable pub secret_at : Hash → List ℕ → ℕ → List ℕ
secret_at h first zero = first
secret_at h first (suc epoch) = updated_secret h (secret_at h first epoch)

-- The key of the records of a direction, of the length that the AEAD fixes, from the direction's secret.
abbrev pub record_key : Hash → AeadAlg → List ℕ → List ℕ
record_key h aead secret = derived h secret (key_size aead) Key []

-- The 12 bytes of the initialization vector of a direction, from the direction's secret.
abbrev pub record_iv : Hash → List ℕ → List ℕ
record_iv h secret = derived h secret 12 Iv []

-- The finished key of a direction, from its secret during the handshake.
abbrev pub finished_key : Hash → List ℕ → List ℕ
finished_key h secret = derived h secret h.size Finished []

-- Verify data: HMAC of the hash of a transcript under the finished key, from a direction's secret during the handshake.
abbrev pub verify_data : Hash → List ℕ → List ℕ → List ℕ
verify_data h secret th = hmac h (finished_key h secret) th
