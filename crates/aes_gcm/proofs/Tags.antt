-- A tag has 16 bytes.
use Rattle.std.proofs.Common.{◌≡◌, ℕ, List, length, refl}
use Rattle.ghash.specs.Hash.{block_bytes}
use Rattle.aes_gcm.specs.Gcm.{tag_of}

length-block_bytes : (x : ℕ) → length (block_bytes x) ≡ 16
unfolding block_bytes
length-block_bytes x = refl

pub length-tag_of : (key iv aad text : List ℕ) → length (tag_of key iv aad text) ≡ 16
length-tag_of key iv aad text = length-block_bytes _
