-- GHASH (SP 800-38D, section 6.4), and bytes as blocks.
use Rattle.std.specs.Prelude.{ℕ, zero, suc, ◌+◌, ◌*◌, ◌/◌, bit_xor, List, [], ◌∷◌, length, drop, map}
use Rattle.std.specs.List.{range_with_len}
use Rattle.byteorder.specs.Endian.{big_number, big_bytes}
use Rattle.ghash.specs.Field.{product}

-- x h^k: a block times h, k times.
unfoldable pub times_power : ℕ → ℕ → ℕ → ℕ
times_power h zero x = x
times_power h (suc k) x = product (times_power h k x) h

-- GHASH of the blocks X1, X2, .., Xm under h: the sum X1 h^m + X2 h^(m - 1) + .. + Xm h.
unfoldable pub ghash : ℕ → List ℕ → ℕ
ghash h [] = 0
ghash h (x ∷ xs) = bit_xor (times_power h (suc (length xs)) x) (ghash h xs)

-- The block of the first 16 of some bytes, with zeros behind the last.
unfoldable pub block_number : List ℕ → ℕ
block_number bytes = big_number 16 bytes

-- The 16 bytes of a block.
unfoldable pub block_bytes : ℕ → List ℕ
block_bytes block = big_bytes 16 block

-- Block n of some bytes: the 16 bytes from byte 16 n on, with zeros behind the last.
abbrev pub block_at : List ℕ → ℕ → ℕ
block_at bytes n = block_number (drop (16 * n) bytes)

-- The blocks of some bytes, the last of them filled with zeros.
abbrev pub blocks : List ℕ → List ℕ
blocks bytes = map (block_at bytes) (range_with_len 0 ((length bytes + 15) / 16))
