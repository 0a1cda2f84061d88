-- Sums of bits that are zero.
use Rattle.std.proofs.Common.{◌≡◌, ℕ, ap, ◌∙◌, arith}
use lib.Bits.{bit_or, bit_xor, or_add_and, xor_add_and, and_le_l, and_le_r, xor_self}

pub or_none : (x y : ℕ) → bit_or x y ≡ 0 → (x ≡ 0) × (y ≡ 0)
or_none x y e = (omega (arith, or_add_and x y, and_le_l x y, and_le_r x y), omega (arith, or_add_and x y, and_le_l x y, and_le_r x y))

pub or_of_none : (x y : ℕ) → x ≡ 0 → y ≡ 0 → bit_or x y ≡ 0
or_of_none x y e f = omega (arith, or_add_and x y)

pub xor_none : (a b : ℕ) → bit_xor a b ≡ 0 → a ≡ b
xor_none a b e = omega (arith, xor_add_and a b, and_le_l a b, and_le_r a b)

pub xor_of_same : (a b : ℕ) → a ≡ b → bit_xor a b ≡ 0
xor_of_same a b e = ap (bit_xor a) (let f : b ≡ a = omega arith in f) ∙ xor_self a
