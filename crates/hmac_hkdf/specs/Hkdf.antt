-- HKDF (RFC 5869) over HMAC with a hash function.
use Rattle.std.specs.Prelude.{ℕ, zero, suc, ◌+◌, ◌-◌, ◌/◌, List, [], ◌∷◌, ◌++◌, take}
use Rattle.running_hash.specs.Hash.{Hash}
use Rattle.hmac_hkdf.specs.Hmac.{hmac}

-- PRK = HMAC(salt, IKM), the input keying material IKM (section 2.2).
abbrev pub extract : Hash → List ℕ → List ℕ → List ℕ
extract h salt input = hmac h salt input

-- T(0) is empty, and T(n) = HMAC(PRK, T(n - 1) | info | n), with n as one byte (section 2.3).
unfoldable pub block_of : Hash → List ℕ → List ℕ → ℕ → List ℕ
block_of h prk info zero = []
block_of h prk info (suc n) = hmac h prk (block_of h prk info n ++ info ++ (n + 1) ∷ [])

-- T(1) | T(2) | .. | T(n).
unfoldable pub blocks_of : Hash → List ℕ → List ℕ → ℕ → List ℕ
blocks_of h prk info zero = []
blocks_of h prk info (suc n) = blocks_of h prk info n ++ block_of h prk info (suc n)

-- OKM: the first L bytes of T(1) | .. | T(N), where N is L divided by the length of the hash, rounded up.
unfoldable pub expand : Hash → List ℕ → List ℕ → ℕ → List ℕ
expand h prk info len = take len (blocks_of h prk info ((len + (h.size - 1)) / h.size))
