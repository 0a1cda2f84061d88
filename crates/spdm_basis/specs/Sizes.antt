-- The lengths that a hash function and a cipher fix.
use Rattle.std.specs.Prelude.{ℕ, Bool, ◌==◌, ◌||◌}
use Rattle.spdm_basis.specs.declared.values.hash_alg.HashAlg.{HashAlg}
use Rattle.spdm_basis.specs.declared.values.hash_alg.HashAlg.TheVariants.{Sha256, Sha384}
use Rattle.spdm_basis.specs.declared.values.aead_alg.AeadAlg.{AeadAlg}
use Rattle.spdm_basis.specs.declared.values.aead_alg.AeadAlg.TheVariants.{Aes128Gcm, Aes256Gcm}

-- The length of a hash in bytes (FIPS 180-4, section 1: 256 and 384 bits).
abbrev pub hash_size : HashAlg → ℕ
hash_size Sha256 = 32
hash_size Sha384 = 48

-- A length is that of one of the two hashes.
abbrev pub is_hash_size : ℕ → Bool
is_hash_size n = n == 32 || n == 48

-- The length of a key in bytes (FIPS 197, section 1: 128 and 256 bits).
abbrev pub key_size : AeadAlg → ℕ
key_size Aes128Gcm = 16
key_size Aes256Gcm = 32
