-- What a byte adds to its column in a round: the byte is substituted and multiplied by the entries of the matrix of MixColumns in the column of its row. This project's own, from FIPS 197, sections 5.1.1 and 5.1.3.
use Rattle.std.specs.Prelude.{ℕ, [], ◌∷◌}
use Rattle.byteorder.specs.Endian.{big_number}
use Rattle.aes.specs.ByteField.{sbox_of, times}

-- A column as a number, the byte of the first row the highest.
abbrev pub column : ℕ → ℕ → ℕ → ℕ → ℕ
column a b c d = big_number 4 (a ∷ b ∷ c ∷ d ∷ [])

-- What a substituted byte adds from the first, second, third and fourth row.
abbrev pub from_first : ℕ → ℕ
from_first s = column (times 2 s) s s (times 3 s)

abbrev pub from_second : ℕ → ℕ
from_second s = column (times 3 s) (times 2 s) s s

abbrev pub from_third : ℕ → ℕ
from_third s = column s (times 3 s) (times 2 s) s

abbrev pub from_fourth : ℕ → ℕ
from_fourth s = column s s (times 3 s) (times 2 s)

-- The same of a byte that is not yet substituted.
unfoldable pub first_row : ℕ → ℕ
first_row x = from_first (sbox_of x)

unfoldable pub second_row : ℕ → ℕ
second_row x = from_second (sbox_of x)

unfoldable pub third_row : ℕ → ℕ
third_row x = from_third (sbox_of x)

unfoldable pub fourth_row : ℕ → ℕ
fourth_row x = from_fourth (sbox_of x)
