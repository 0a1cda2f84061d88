-- GF(2^128) as blocks (SP 800-38D, section 6.3). A block is the number that its 16 bytes read as, the highest first; its leftmost bit is the coefficient of x^0.
use Rattle.std.specs.Prelude.{ℕ, zero, suc, ◌+◌, ◌-◌, ◌*◌, ◌/◌, ◌%◌, ◌^◌, bit_xor}

-- The coefficient of x^j.
abbrev pub coefficient : ℕ → ℕ → ℕ
coefficient a j = a / 2 ^ (127 - j) % 2

-- x^128, which is x^7 + x^2 + x + 1: the bits 11100001 and 120 zeros.
abbrev pub x_128 : ℕ
x_128 = 0xe1000000000000000000000000000000

-- x times a block: each coefficient moves one place, and that of x^127 becomes x^128.
abbrev pub times_x : ℕ → ℕ
times_x v = bit_xor (v / 2) (v % 2 * x_128)

-- x^k.
unfoldable pub power : ℕ → ℕ
power zero = 0x80000000000000000000000000000000
power (suc k) = times_x (power k)

-- The sum of x^(i + j) over the coefficients of b that are set, those of x^j for j below m.
unfoldable pub row : ℕ → ℕ → ℕ → ℕ
row b i zero = 0
row b i (suc m) = bit_xor (row b i m) (coefficient b m * power (i + m))

-- The sum of x^(i + j) over the coefficients x^i of a, for i below n, and x^j of b that are set.
unfoldable pub rows : ℕ → ℕ → ℕ → ℕ
rows a b zero = 0
rows a b (suc n) = bit_xor (rows a b n) (coefficient a n * row b n 128)

-- The product of two blocks: the sum over all pairs of set coefficients.
unfoldable pub product : ℕ → ℕ → ℕ
product a b = rows a b 128
