-- What a running HMAC was given so far. This project's own.
use Rattle.std.specs.Prelude.{◌≡◌, ℕ, List, ◌++◌}
use Rattle.spdm_basis.specs.declared.values.hash_alg.HashAlg.{HashAlg}
use Rattle.running_hash.specs.Hash.{hash_of}
use Rattle.running_hash.specs.Holds.{Holds, function_of}
use Rattle.hmac_hkdf.specs.Hmac.{masked, padded_key}
use Rattle.hmac_hkdf.specs.declared.mac.RunningMac.{RunningMac}

-- Both hashes of HMAC run this hash function.
pub record Runs (mac : RunningMac) (hash : HashAlg) : Type 0 where
  pub inner : function_of mac.inner ≡ hash
  pub outer : function_of mac.outer ≡ hash

-- Both hashes of HMAC under this hash function and key: the inner one was given the masked key and the text so far, the
-- outer one its masked key.
pub record HoldsMac (hash : HashAlg) (mac : RunningMac) (key text : List ℕ) : Type 0 where
  pub inner : Holds mac.inner (masked 0x36 (padded_key (hash_of hash) key) ++ text)
  pub outer : Holds mac.outer (masked 0x5c (padded_key (hash_of hash) key))
