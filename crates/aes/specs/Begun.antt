-- Blocks that are enciphered up to what their last byte changes. In the second round the states of two blocks that differ in the last byte differ in the first column alone. This project's own, from FIPS 197, section 5.1.
use Rattle.std.specs.Prelude.{◌≡◌, ℕ, ◌+◌, ◌*◌, ◌/◌, ◌%◌, ◌^◌, ◌<◌, List, bit_xor}
use Rattle.aes.specs.Cipher.{rounds, round_keys}
use Rattle.aes.specs.Tables.{first_row, second_row, third_row, fourth_row}
use Rattle.aes.specs.Words.{block_bytes, bytes_of}
use Rattle.aes.specs.declared.columns.Columns.{Columns}
use Rattle.aes.specs.declared.begun.Begun.{Begun}

-- The byte of a column in the row whose bytes stand at bit k.
abbrev pub byte_at : ℕ → ℕ → ℕ
byte_at column k = column / 2 ^ k % 2 ^ 8

-- The state of a block that is given as a number.
abbrev pub columns_of : ℕ → Columns
columns_of x = record { first = x / 2 ^ 96; second = x / 2 ^ 64 % 2 ^ 32; third = x / 2 ^ 32 % 2 ^ 32; fourth = x % 2 ^ 32 }

-- AddRoundKey on states as numbers.
abbrev pub sum_of : Columns → Columns → Columns
sum_of s k = record { first = bit_xor s.first k.first; second = bit_xor s.second k.second; third = bit_xor s.third k.third; fourth = bit_xor s.fourth k.fourth }

-- The column that SubBytes and MixColumns make of four bytes, as a number.
abbrev pub column_of : ℕ → ℕ → ℕ → ℕ → ℕ
column_of a b c d = bit_xor (bit_xor (bit_xor (first_row a) (second_row b)) (third_row c)) (fourth_row d)

-- SubBytes, ShiftRows and MixColumns on a state as numbers.
abbrev pub mixed_of : Columns → Columns
mixed_of s = record {
  first = column_of (byte_at s.first 24) (byte_at s.second 16) (byte_at s.third 8) (s.fourth % 2 ^ 8);
  second = column_of (byte_at s.second 24) (byte_at s.third 16) (byte_at s.fourth 8) (s.first % 2 ^ 8);
  third = column_of (byte_at s.third 24) (byte_at s.fourth 16) (byte_at s.first 8) (s.second % 2 ^ 8);
  fourth = column_of (byte_at s.fourth 24) (byte_at s.first 16) (byte_at s.second 8) (s.third % 2 ^ 8);
}

-- A round on a state as numbers.
abbrev pub round_of : Columns → Columns → Columns
round_of s k = sum_of (mixed_of s) k

-- What the first column of a state adds to each column in a round.
abbrev pub share_of : ℕ → Columns
share_of x = record { first = first_row (byte_at x 24); second = fourth_row (x % 2 ^ 8); third = third_row (byte_at x 8); fourth = second_row (byte_at x 16) }

-- The state after two rounds, once the last byte is known: it changes the first column of the first round, and that column its share of the second.
abbrev pub state_of : Begun → ℕ → Columns
state_of begun last = sum_of begun.rest (share_of (bit_xor begun.first (fourth_row (bit_xor last begun.key))))

-- What was begun stands for each block with the first 15 bytes of a block.
abbrev pub IsBegun : Begun → List ℕ → ℕ → Type 0
IsBegun begun key block =
    (last : ℕ) → last < 2 ^ 8 → bytes_of (state_of begun last) ≡ rounds (round_keys key) (block_bytes (block / 2 ^ 8 * 2 ^ 8 + last)) 2
