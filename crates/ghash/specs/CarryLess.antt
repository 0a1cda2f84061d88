-- Products without carries, and sums of products of words. This project's own.
use Rattle.std.specs.Prelude.{ℕ, zero, suc, ◌*◌, ◌/◌, ◌%◌, bit_xor, List, slice_index}

-- The product of a and b without carries, where a has n bits: that of its lowest bit, and one place to the left that of the others.
unfoldable pub carry_less : ℕ → ℕ → ℕ → ℕ
carry_less zero a b = 0
carry_less (suc n) a b = bit_xor (a % 2 * b) (carry_less n (a / 2) b * 2)

-- Four products of numbers, added bit by bit.
abbrev pub sum_of_products : List ℕ → List ℕ → ℕ
sum_of_products x y =
    bit_xor
    (bit_xor (slice_index x 0 * slice_index y 0) (slice_index x 1 * slice_index y 1))
    (bit_xor (slice_index x 2 * slice_index y 2) (slice_index x 3 * slice_index y 3))
