-- Bytes by slices: eight words, of which the first has the lowest bits of 64 bytes, and so on up to the highest bits. This project's own.
use Rattle.std.specs.Prelude.{ℕ, ◌+◌, ◌-◌, ◌*◌, ◌/◌, ◌%◌, ◌^◌, List, map}
use Rattle.std.specs.List.{range_with_len}
use Rattle.aes.specs.declared.slices.Slices.{Slices}

-- The byte at a place.
unfoldable pub byte_at : Slices → ℕ → ℕ
byte_at s p =
    s.bit0 / 2 ^ p % 2 + s.bit1 / 2 ^ p % 2 * 2 + s.bit2 / 2 ^ p % 2 * 2 ^ 2 + s.bit3 / 2 ^ p % 2 * 2 ^ 3
    + s.bit4 / 2 ^ p % 2 * 2 ^ 4 + s.bit5 / 2 ^ p % 2 * 2 ^ 5 + s.bit6 / 2 ^ p % 2 * 2 ^ 6 + s.bit7 / 2 ^ p % 2 * 2 ^ 7

-- Where byte i of block b of four stands in a state whose rows were shifted k times without moving a byte. A row has 16 places and a column of it four, one for each block; the first row and the first column stand highest.
abbrev pub place : ℕ → ℕ → ℕ → ℕ
place k b i = 16 * (3 - i % 4) + 4 * (3 - (i / 4 + k * (i % 4)) % 4) + b

-- Block b of such a state.
abbrev pub block_at : ℕ → Slices → ℕ → List ℕ
block_at k s b = map (λ i. byte_at s (place k b i)) (range_with_len 0 16)

-- Where the byte of the next row, and that of the second row from here, of the same column stand, where the rows were shifted k times.
abbrev pub next_place : ℕ → ℕ → ℕ
next_place k p = (p / 16 + 3) % 4 * 16 + (p / 4 + 16 - k) % 4 * 4 + p % 4

abbrev pub second_place : ℕ → ℕ → ℕ
second_place k p = (p / 16 + 2) % 4 * 16 + (p / 4 + 16 - 2 * k) % 4 * 4 + p % 4

-- Where a byte stands before its row is shifted by two columns, if the row is the second or the fourth.
abbrev pub shifted_place : ℕ → ℕ
shifted_place p = p / 16 * 16 + (p / 4 + 2 * (p / 16 + 1)) % 4 * 4 + p % 4

-- Which bit of a block stands at place p of the word that has the lower four bits of each byte, bits of one byte side by side.
abbrev pub spread_place : ℕ → ℕ
spread_place p = 8 * (4 * (p / 4 % 4) + p / 16) + p % 4

-- The place of bit n of a block in such a word, or in that of the upper four bits of each byte.
abbrev pub gathered_place : ℕ → ℕ
gathered_place n = 16 * (n / 8 % 4) + 4 * (n / 32) + n % 4
