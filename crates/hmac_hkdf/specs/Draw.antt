-- The draws of a seed. This project's own.
use Rattle.std.specs.Prelude.{ℕ, List}
use Rattle.std.specs.Int.{w64, to_le_bytes}
use Rattle.spdm_basis.specs.declared.values.hash_alg.HashAlg.TheVariants.{Sha256}
use Rattle.running_hash.specs.Hash.{hash_of}
use Rattle.hmac_hkdf.specs.Hmac.{hmac}

-- The draw of a number: HMAC over SHA-256 of the seed and the number as eight bytes, little-endian.
abbrev pub draw : List ℕ → ℕ → List ℕ
draw seed number = hmac (hash_of Sha256) seed (to_le_bytes w64 number)

-- A stream of draws: its seed, and the number of its next draw.
pub record Draws : Type 0 where
  pub seed : List ℕ
  pub number : ℕ
