-- Bytes as elements of GF(2^8) (FIPS 197, section 4), and the substitution of AES (section 5.1.1). A byte is a polynomial over GF(2) whose coefficients are its bits.
use Rattle.std.specs.Prelude.{ℕ, zero, suc, ◌+◌, ◌*◌, ◌/◌, ◌%◌, ◌^◌, ◌==◌, if◌then◌else◌, bit_xor}

-- The coefficient of x^i.
abbrev pub coefficient : ℕ → ℕ → ℕ
coefficient a i = a / 2 ^ i % 2

-- The product of polynomials, not yet reduced: the sum of a x^i over the coefficients of b that are set, those of x^i for i below n.
unfoldable pub product_below : ℕ → ℕ → ℕ → ℕ
product_below zero a b = 0
product_below (suc n) a b = bit_xor (product_below n a b) (coefficient b n * (a * 2 ^ n))

-- The remainder modulo x^8 + x^4 + x^3 + x + 1 of a polynomial of degree below 8 + n (section 4.2).
unfoldable pub reduced : ℕ → ℕ → ℕ
reduced zero p = p
reduced (suc n) p = reduced n (bit_xor p (coefficient p (8 + n) * (0x11b * 2 ^ n)))

-- The product in GF(2^8) (section 4.2).
abbrev pub times : ℕ → ℕ → ℕ
times a b = reduced 7 (product_below 8 a b)

-- The number below n whose product with a is 1, and 0 where there is none.
unfoldable pub inverse_below : ℕ → ℕ → ℕ
inverse_below zero a = 0
inverse_below (suc n) a = if times a n == 1 then n else inverse_below n a

-- The inverse in GF(2^8), with 0 for 0.
abbrev pub inverse : ℕ → ℕ
inverse a = inverse_below 256 a

-- Bit i of the affine map of a byte (section 5.1.1, equation 5.1).
abbrev pub affine_bit : ℕ → ℕ → ℕ
affine_bit a i = (coefficient a i + coefficient a ((i + 4) % 8) + coefficient a ((i + 5) % 8) + coefficient a ((i + 6) % 8) + coefficient a ((i + 7) % 8) + coefficient 0x63 i) % 2

-- The number of the bits of the affine map below bit n.
abbrev pub affine_below : ℕ → ℕ → ℕ
affine_below zero a = 0
affine_below (suc n) a = affine_below n a + affine_bit a n * 2 ^ n

-- The substitution of a byte: the affine map of its inverse.
unfoldable pub sbox_of : ℕ → ℕ
sbox_of a = affine_below 8 (inverse a)

-- x^n in GF(2^8).
unfoldable pub power : ℕ → ℕ
power zero = 1
power (suc n) = times 2 (power n)
