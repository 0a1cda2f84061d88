-- The hash functions of SPDM (FIPS 180-4, sections 6.2 and 6.5), as functions on lists of bytes.
use Rattle.std.specs.Prelude.{ℕ, List}
use Rattle.sha2.specs.Sha256.{sha256}
use Rattle.sha2.specs.Sha512.{sha384}
use Rattle.spdm_basis.specs.Sizes.{hash_size}
use Rattle.spdm_basis.specs.declared.values.hash_alg.HashAlg.{HashAlg}
use Rattle.spdm_basis.specs.declared.values.hash_alg.HashAlg.TheVariants.{Sha256, Sha384}

-- A hash function, with the length of its output and of the blocks that it takes its input in, in bytes.
pub record Hash : Type 0 where
  pub digest : List ℕ → List ℕ
  pub size : ℕ
  pub block : ℕ

-- The hash of a list of bytes.
abbrev pub digest_by : HashAlg → List ℕ → List ℕ
digest_by Sha256 m = sha256 m
digest_by Sha384 m = sha384 m

-- The length of a block: 512 and 1,024 bits (FIPS 180-4, section 1).
abbrev pub block_size : HashAlg → ℕ
block_size Sha256 = 64
block_size Sha384 = 128

-- The hash function of a choice.
abbrev pub hash_of : HashAlg → Hash
hash_of hash = record { digest = digest_by hash; size = hash_size hash; block = block_size hash }
