-- Products with six coefficients at a time, as the table of a key holds them, and sums that are not yet folded. This project's own.
use Rattle.std.specs.Prelude.{ℕ, zero, suc, ◌+◌, ◌*◌, ◌^◌, ◌≡◌, ◌<◌, List, slice_index}
use Rattle.ghash.specs.Field.{times_x, product}
use Rattle.ghash.specs.declared.wide.Wide.{Wide}

-- A table holds the product of b with each block that has only its first six coefficients, that of x^0 the highest bit of w.
abbrev pub IsTable : List ℕ → ℕ → Type 0
IsTable table b = (w : ℕ) → w < 64 → slice_index table w ≡ product (w * 2 ^ 122) b

-- x^n times a block.
unfoldable pub moved : ℕ → ℕ → ℕ
moved zero v = v
moved (suc n) v = times_x (moved n v)

-- A sum of 256 coefficients as one number.
abbrev pub number_of : Wide → ℕ
number_of s = s.high * 2 ^ 128 + s.low
