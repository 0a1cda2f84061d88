-- Laws of products without carries.
use Rattle.std.proofs.Common.{◌≡◌, ℕ, zero, suc, ◌+◌, ◌*◌, ◌/◌, ◌%◌, ◌^◌, ◌<◌, ◌≤◌, arith, ap, refl, sym, subst, ◌∙◌, zero-add, pow_mono}
use Rattle.std.proofs.Math.Nat.{zero-mul, one-mul, mul-one, mul_assoc, pow-suc, mul-mod_left, div-one, div-eq_of_lt, div-add-mod'}
use Rattle.std.proofs.Math.Pow.{mod-mod-pow}
use Rattle.std.proofs.lemmas.Nat.{pow_pos, shl-shr, shr-shr, field_of, xor_lt, xor_block}
use lib.Bits.{bit_xor, xor_assoc, xor_comm, xor_zero_r, xor_shr, xor_mod, xor_shifted}
use Rattle.ghash.specs.CarryLess.{carry_less}
use Rattle.ghash.proofs.Products.{exchange, digit_mul}

pub shift-xor : (k a b : ℕ) → bit_xor (a * 2 ^ k) (b * 2 ^ k) ≡ bit_xor a b * 2 ^ k
shift-xor k a b =
    let e : a * 2 ^ k ≡ a * 2 ^ k + 0 = omega arith in
    let f : b * 2 ^ k ≡ b * 2 ^ k + 0 = omega arith in
    ap (λ t. bit_xor t (b * 2 ^ k)) e
    ∙ ap (bit_xor (a * 2 ^ k + 0)) f
    ∙ xor_block k a b 0 0 (pow_pos k) (pow_pos k)
    ∙ omega arith

digit-xor : (d b c : ℕ) → d < 2 → d * bit_xor b c ≡ bit_xor (d * b) (d * c)
digit-xor zero b c _ = zero-mul (bit_xor b c) ∙ sym (ap (λ t. bit_xor t (0 * c)) (zero-mul b) ∙ zero-mul c)
digit-xor (suc zero) b c _ = one-mul (bit_xor b c) ∙ sym (ap (λ t. bit_xor t (1 * c)) (one-mul b) ∙ ap (bit_xor b) (one-mul c))
digit-xor (suc (suc d)) b c h = absurd (omega arith)

-- a sum times a number, and a number times a sum
pub left-xor : (n a b c : ℕ) → carry_less n (bit_xor a b) c ≡ bit_xor (carry_less n a c) (carry_less n b c)
unfolding carry_less
left-xor zero a b c = refl
left-xor (suc n) a b c =
    let p = carry_less n (a / 2) c in
    let q = carry_less n (b / 2) c in
    ap (λ t. bit_xor (t * c) (carry_less n (bit_xor a b / 2) c * 2)) (xor_mod a b 1)
    ∙ ap (λ t. bit_xor t (carry_less n (bit_xor a b / 2) c * 2)) (digit_mul (a % 2) (b % 2) c (omega arith) (omega arith))
    ∙ ap (λ t. bit_xor (bit_xor (a % 2 * c) (b % 2 * c)) (t * 2)) (ap (λ t. carry_less n t c) (xor_shr a b 1) ∙ left-xor n (a / 2) (b / 2) c)
    ∙ ap (bit_xor (bit_xor (a % 2 * c) (b % 2 * c))) (sym (shift-xor 1 p q))
    ∙ exchange (a % 2 * c) (b % 2 * c) (p * 2) (q * 2)

pub right-xor : (n a b c : ℕ) → carry_less n a (bit_xor b c) ≡ bit_xor (carry_less n a b) (carry_less n a c)
unfolding carry_less
right-xor zero a b c = refl
right-xor (suc n) a b c =
    let d = a % 2 in
    let p = carry_less n (a / 2) b in
    let q = carry_less n (a / 2) c in
    ap (λ t. bit_xor t (carry_less n (a / 2) (bit_xor b c) * 2)) (digit-xor d b c (omega arith))
    ∙ ap (λ t. bit_xor (bit_xor (d * b) (d * c)) (t * 2)) (right-xor n (a / 2) b c)
    ∙ ap (bit_xor (bit_xor (d * b) (d * c))) (sym (shift-xor 1 p q))
    ∙ exchange (d * b) (d * c) (p * 2) (q * 2)

-- nothing times a number, and a number times nothing
pub left-none : (n b : ℕ) → carry_less n 0 b ≡ 0
unfolding carry_less
left-none zero b = refl
left-none (suc n) b = ap (λ t. bit_xor t (carry_less n 0 b * 2)) (zero-mul b) ∙ ap (λ t. t * 2) (left-none n b)

pub right-none : (n a : ℕ) → carry_less n a 0 ≡ 0
unfolding carry_less
right-none zero a = refl
right-none (suc n) a =
    let e : a % 2 * 0 ≡ 0 = omega arith in
    ap (λ t. bit_xor t (carry_less n (a / 2) 0 * 2)) e ∙ ap (λ t. t * 2) (right-none n (a / 2))

-- moved places to the left, on the right side
pub right-shift : (n k a b : ℕ) → carry_less n a (b * 2 ^ k) ≡ carry_less n a b * 2 ^ k
unfolding carry_less
right-shift zero k a b = sym (zero-mul (2 ^ k))
right-shift (suc n) k a b =
    let p = carry_less n (a / 2) b in
    let e : p * 2 ^ k * 2 ≡ p * 2 * 2 ^ k = omega arith in
    ap (λ t. bit_xor t (carry_less n (a / 2) (b * 2 ^ k) * 2)) (sym (mul_assoc (a % 2) b (2 ^ k)))
    ∙ ap (λ t. bit_xor (a % 2 * b * 2 ^ k) (t * 2)) (right-shift n k (a / 2) b)
    ∙ ap (bit_xor (a % 2 * b * 2 ^ k)) e
    ∙ shift-xor k (a % 2 * b) (p * 2)

-- the first bits of the left side, and the others
pub left-split : (m n a b : ℕ) → carry_less (m + n) a b ≡ bit_xor (carry_less m a b) (carry_less n (a / 2 ^ m) b * 2 ^ m)
unfolding carry_less
left-split zero n a b =
    ap (λ t. carry_less t a b) (zero-add n)
    ∙ ap (λ t. carry_less n t b) (sym (div-one a))
    ∙ sym (mul-one (carry_less n (a / 1) b))
left-split (suc m) n a b =
    let d = a % 2 in
    let p = carry_less m (a / 2) b in
    let q = carry_less n (a / 2 / 2 ^ m) b in
    let e : suc m + n ≡ suc (m + n) = omega arith in
    let f : 1 + m ≡ suc m = omega arith in
    let g : q * 2 ^ m * 2 ≡ q * 2 ^ suc m = rw pow-suc (omega arith) in
    ap (λ t. carry_less t a b) e
    ∙ ap (λ t. bit_xor (d * b) (t * 2)) (left-split m n (a / 2) b)
    ∙ ap (bit_xor (d * b)) (sym (shift-xor 1 p (q * 2 ^ m)))
    ∙ sym (xor_assoc (d * b) (p * 2) (q * 2 ^ m * 2))
    ∙ ap (bit_xor (bit_xor (d * b) (p * 2))) (g ∙ ap (λ t. carry_less n t b * 2 ^ suc m) (shr-shr a 1 m ∙ ap (λ t. a / 2 ^ t) f))

pub left-low : (m a b : ℕ) → carry_less m (a % 2 ^ m) b ≡ carry_less m a b
unfolding carry_less
left-low zero a b = refl
left-low (suc m) a b =
    let f : suc m ≡ m + 1 = omega arith in
    ap (λ t. bit_xor (a % 2 ^ t % 2 * b) (carry_less m (a % 2 ^ t / 2) b * 2)) f
    ∙ ap (λ t. bit_xor (t * b) (carry_less m (a % 2 ^ (m + 1) / 2) b * 2)) (mod-mod-pow a m 1)
    ∙ ap (λ t. bit_xor (a % 2 * b) (t * 2)) (ap (λ t. carry_less m t b) (field_of a m 1) ∙ left-low m (a / 2) b)

left-more : (n m a b : ℕ) → a < 2 ^ n → carry_less (n + m) a b ≡ carry_less n a b
left-more n m a b lt =
    left-split n m a b
    ∙ ap (λ t. bit_xor (carry_less n a b) (carry_less m t b * 2 ^ n)) (div-eq_of_lt lt)
    ∙ ap (λ t. bit_xor (carry_less n a b) (t * 2 ^ n)) (left-none m b)
    ∙ ap (bit_xor (carry_less n a b)) (zero-mul (2 ^ n))
    ∙ xor_zero_r (carry_less n a b)

-- moved places to the left, on the left side
left-double : (n a b : ℕ) → a * 2 < 2 ^ n → carry_less n (a * 2) b ≡ carry_less n a b * 2
unfolding carry_less
left-double zero a b _ = refl
left-double (suc n) a b lt =
    let f : suc n ≡ n + 1 = omega arith in
    let e : 2 ^ suc n ≡ 2 ^ n * 2 = pow-suc 2 n in
    ap (λ t. bit_xor (t * b) (carry_less n (a * 2 / 2) b * 2)) (mul-mod_left a 2)
    ∙ ap (λ t. bit_xor t (carry_less n (a * 2 / 2) b * 2)) (zero-mul b)
    ∙ ap (λ t. carry_less n t b * 2) (shl-shr a 1)
    ∙ ap (λ t. t * 2) (sym (ap (λ t. carry_less t a b) f ∙ left-more n 1 a b (omega arith)))

pub left-shift : (n k a b : ℕ) → a * 2 ^ k < 2 ^ n → carry_less n (a * 2 ^ k) b ≡ carry_less n a b * 2 ^ k
left-shift n zero a b lt = ap (λ t. carry_less n t b) (mul-one a) ∙ sym (mul-one (carry_less n a b))
left-shift n (suc k) a b lt =
    let p = carry_less n (a * 2 ^ k) b in
    let e : a * 2 ^ suc k ≡ a * 2 ^ k * 2 = rw pow-suc (omega arith) in
    let less : a * 2 ^ k * 2 < 2 ^ n = rw (← e) lt in
    let f : carry_less n a b * 2 ^ k * 2 ≡ carry_less n a b * 2 ^ suc k = rw pow-suc (omega arith) in
    ap (λ t. carry_less n t b) e
    ∙ left-double n (a * 2 ^ k) b less
    ∙ ap (λ t. t * 2) (left-shift n k a b (omega arith))
    ∙ f

-- a single bit on the right side
right-one : (n a : ℕ) → a < 2 ^ n → carry_less n a 1 ≡ a
unfolding carry_less
right-one zero a lt = omega arith
right-one (suc n) a lt =
    let e : 2 ^ suc n ≡ 2 ^ n * 2 = pow-suc 2 n in
    ap (λ t. bit_xor t (carry_less n (a / 2) 1 * 2)) (mul-one (a % 2))
    ∙ ap (λ t. bit_xor (a % 2) (t * 2)) (right-one n (a / 2) (omega arith))
    ∙ xor_comm (a % 2) (a / 2 * 2)
    ∙ xor_shifted (a / 2) 1 (a % 2) (omega arith)
    ∙ div-add-mod' a 2

pub right-digit : (n a d : ℕ) → a < 2 ^ n → d < 2 → carry_less n a d ≡ d * a
right-digit n a zero _ _ = right-none n a ∙ sym (zero-mul a)
right-digit n a (suc zero) lt _ = right-one n a lt ∙ sym (one-mul a)
right-digit n a (suc (suc d)) _ h = absurd (omega arith)

-- a bound
digit-below : (d b m n : ℕ) → d < 2 → b < 2 ^ (m + 1) → d * b < 2 ^ (suc n + m)
digit-below zero b m n _ _ = rw zero-mul (pow_pos (suc n + m))
digit-below (suc zero) b m n _ less =
    let le : m + 1 ≤ suc n + m = omega arith in
    omega (arith, pow_mono le)
digit-below (suc (suc d)) b m n h _ = absurd (omega arith)

pub below : (n m a b : ℕ) → b < 2 ^ (m + 1) → carry_less n a b < 2 ^ (n + m)
unfolding carry_less
below zero m a b lt = pow_pos (0 + m)
below (suc n) m a b lt =
    let P : ℕ → Type 0 = λ t. carry_less n (a / 2) b * 2 < t in
    let e : 2 ^ (suc n + m) ≡ 2 ^ (n + m) * 2 = (let f : suc n + m ≡ suc (n + m) = omega arith in ap (λ t. 2 ^ t) f ∙ pow-suc 2 (n + m)) in
    let h = below n m (a / 2) b lt in
    xor_lt (suc n + m) (a % 2 * b) (carry_less n (a / 2) b * 2) (digit-below (a % 2) b m n (omega arith) lt) (subst P (sym e) (omega arith))
