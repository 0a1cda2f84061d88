-- What a running hash runs, and what it was given so far. This project's own.
use Rattle.std.specs.Prelude.{ℕ, List}
use Rattle.sha2.specs.Hashers.{Holds256, Holds384}
use Rattle.spdm_basis.specs.declared.values.hash_alg.HashAlg.{HashAlg}
use Rattle.spdm_basis.specs.declared.values.hash_alg.HashAlg.TheVariants.{Sha256, Sha384}
use Rattle.running_hash.specs.declared.RunningHash.{RunningHash}
use Rattle.running_hash.specs.declared.RunningHash.TheVariants.{Small, Large}

-- The hash function that it runs.
abbrev pub function_of : RunningHash → HashAlg
function_of (Small hasher) = Sha256
function_of (Large hasher) = Sha384

-- It was given this list of bytes.
abbrev pub Holds : RunningHash → List ℕ → Type 0
Holds (Small hasher) given = Holds256 hasher given
Holds (Large hasher) given = Holds384 hasher given
