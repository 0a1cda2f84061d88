-- Sums of 256 coefficients as numbers.
use Rattle.std.proofs.Common.{◌≡◌, ℕ, ◌+◌, ◌*◌, ◌/◌, ◌%◌, ◌^◌, ◌<◌, ◌≤◌, arith, ap, sym, subst, ◌∙◌, pow_mono}
use Rattle.std.proofs.Math.Nat.{div-add-mod', mul-le-mul_right}
use Rattle.std.proofs.lemmas.Nat.{pow-add, shl-shr, shr-shr, shl_whole, shr_below, xor_lt, xor_block}
use lib.Bits.{bit_xor, xor_zero_r}

pub sum-number : (a b c d : ℕ) → b < 2 ^ 128 → d < 2 ^ 128 → bit_xor a c * 2 ^ 128 + bit_xor b d ≡ bit_xor (a * 2 ^ 128 + b) (c * 2 ^ 128 + d)
sum-number a b c d hb hd = sym (xor_block 128 a c b d hb hd)

-- a number above n more bits
above : (high q k n : ℕ) → high < 2 ^ k → q < 2 ^ n → high * 2 ^ n + q < 2 ^ (k + n)
above high q k n lt less =
    let h : high + 1 ≤ 2 ^ k = omega arith in
    rw pow-add (omega (arith, mul-le-mul_right (2 ^ n) h))

-- what goes over from the lower half
over : (low n m : ℕ) → n + m ≡ 128 → low / 2 ^ m ≡ low * 2 ^ n / 2 ^ 128
over low n m e =
    ap (λ t. t / 2 ^ m) (sym (shl-shr low n)) ∙ shr-shr (low * 2 ^ n) n m ∙ ap (λ t. low * 2 ^ n / 2 ^ t) e

over-lt : (low n m : ℕ) → n + m ≡ 128 → low < 2 ^ 128 → low / 2 ^ m < 2 ^ n
over-lt low n m e lt = let P : ℕ → Type 0 = λ t. low < 2 ^ t in shr_below low n m (subst P (sym e) lt)

whole : (high n m : ℕ) → n + m ≡ 128 → high < 2 ^ m → high * 2 ^ n % 2 ^ 128 ≡ high * 2 ^ n
whole high n m e lt = shl_whole high m n 128 lt (omega arith)

pub shifted-below : (high low n m k : ℕ) → n + m ≡ 128 → high < 2 ^ m → low < 2 ^ 128 → high < 2 ^ k → high * 2 ^ n % 2 ^ 128 + low / 2 ^ m < 2 ^ (k + n)
shifted-below high low n m k e room lt h = rw (whole high n m e room) (above high (low / 2 ^ m) k n h (over-lt low n m e lt))

pub shifted-high : (high low n m : ℕ) → n + m ≡ 128 → high < 2 ^ m → low < 2 ^ 128 → high * 2 ^ n % 2 ^ 128 + low / 2 ^ m < 2 ^ 128
shifted-high high low n m e room lt =
    let P : ℕ → Type 0 = λ t. high * 2 ^ n % 2 ^ 128 + low / 2 ^ m < 2 ^ t in
    let f : m + n ≡ 128 = omega arith in
    subst P f (shifted-below high low n m m e room lt room)

pub shifted-number : (high low n m : ℕ) → n + m ≡ 128 → high < 2 ^ m →
    (high * 2 ^ n % 2 ^ 128 + low / 2 ^ m) * 2 ^ 128 + low * 2 ^ n % 2 ^ 128 ≡ (high * 2 ^ 128 + low) * 2 ^ n
shifted-number high low n m e room =
    omega (arith, whole high n m e room, over low n m e, div-add-mod' (low * 2 ^ n) (2 ^ 128))

-- a block 64 places up and one at the end
pub upper-number : (upper lower : ℕ) → lower < 2 ^ 128 →
    upper / 2 ^ 64 * 2 ^ 128 + bit_xor (upper * 2 ^ 64 % 2 ^ 128) lower ≡ bit_xor (upper * 2 ^ 64) lower
upper-number upper lower lt =
    let r = upper * 2 ^ 64 % 2 ^ 128 in
    let e : upper / 2 ^ 64 * 2 ^ 128 + r ≡ upper * 2 ^ 64 = omega arith in
    let f : 0 * 2 ^ 128 + lower ≡ lower = omega arith in
    ap (λ t. t * 2 ^ 128 + bit_xor r lower) (sym (xor_zero_r (upper / 2 ^ 64)))
    ∙ sym (xor_block 128 (upper / 2 ^ 64) 0 r lower (omega arith) lt)
    ∙ ap (λ t. bit_xor t (0 * 2 ^ 128 + lower)) e
    ∙ ap (bit_xor (upper * 2 ^ 64)) f

pub next-below : (high shifted upper k : ℕ) → 58 ≤ k → high ≡ bit_xor shifted (upper / 2 ^ 64) → shifted < 2 ^ (k + 6) → upper < 2 ^ 128 → high < 2 ^ (k + 6)
next-below high shifted upper k more e lt fits =
    let P : ℕ → Type 0 = λ t. t < 2 ^ (k + 6) in
    let small : upper / 2 ^ 64 < 2 ^ 64 = omega arith in
    let up : 2 ^ 64 ≤ 2 ^ (k + 6) = (let h : 64 ≤ k + 6 = omega arith in pow_mono h) in
    subst P (sym e) (xor_lt (k + 6) shifted (upper / 2 ^ 64) lt (omega arith))
