-- Numbers in texts: decimal digits without leading zeros. This project's own.
use Rattle.std.specs.Prelude.{ℕ, List, ◌+◌, ◌-◌, ◌*◌, ◌==◌, ◌&&◌, nat_le, nat_lt, not, fold, length, slice_index, Bool}
use Rattle.std.specs.List.{list_all}

-- A byte is a decimal digit.
abbrev pub is_digit : ℕ → Bool
is_digit b = nat_le 48 b && nat_le b 57

-- A word begins with a zero that does not stand alone.
abbrev pub has_leading_zero : List ℕ → Bool
has_leading_zero word = nat_lt 1 (length word) && slice_index word 0 == 48

-- A word is a number: at least one digit, nothing but digits, and no leading zero.
unfoldable pub is_number : List ℕ → Bool
is_number word = not (length word == 0) && list_all is_digit word && not (has_leading_zero word)

-- The number with one more digit.
abbrev pub with_digit : ℕ → ℕ → ℕ
with_digit value digit = value * 10 + (digit - 48)

-- The value of digits, big-endian.
unfoldable pub value_of : List ℕ → ℕ
value_of word = fold with_digit 0 word

-- A word is a number from `low` to `high`.
abbrev pub is_number_in : ℕ → ℕ → List ℕ → Bool
is_number_in low high word = is_number word && nat_le low (value_of word) && nat_le (value_of word) high
