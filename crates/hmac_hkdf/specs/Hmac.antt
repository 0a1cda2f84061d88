-- HMAC (RFC 2104, section 2) over a hash function.
use Rattle.std.specs.Prelude.{ℕ, ◌-◌, List, ◌++◌, length, replicate, map, bit_xor, if◌then◌else◌, nat_le}
use Rattle.running_hash.specs.Hash.{Hash}

-- The key, or its hash where it is longer than a block.
abbrev pub short_key : Hash → List ℕ → List ℕ
short_key h key = if nat_le (length key) h.block then key else h.digest key

-- The key with zeros appended up to the length of a block.
abbrev pub padded_key : Hash → List ℕ → List ℕ
padded_key h key = short_key h key ++ replicate (h.block - length (short_key h key)) 0

-- Each byte of a padded key XORed with the byte of ipad, 36, or of opad, 5c.
abbrev pub masked : ℕ → List ℕ → List ℕ
masked pad key = map (λ x. bit_xor x pad) key

-- H(K XOR opad, H(K XOR ipad, text)), K the padded key.
unfoldable pub hmac : Hash → List ℕ → List ℕ → List ℕ
hmac h key text = h.digest (masked 0x5c (padded_key h key) ++ h.digest (masked 0x36 (padded_key h key) ++ text))
