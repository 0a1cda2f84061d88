-- Every fourth bit of a number, and products of such numbers: where no sum of bits is above 15, its last bit is that of the product without carries.
use Rattle.std.proofs.Common.{◌≡◌, ℕ, zero, suc, ◌+◌, ◌*◌, ◌/◌, ◌%◌, ◌^◌, ◌<◌, ◌≤◌, [], ◌∷◌, get_or, arith, ap, refl, sym, subst, ◌∙◌, zero-le}
use Rattle.std.proofs.Math.Nat.{zero-mul, one-mul, div-add-mod'}
use Rattle.std.proofs.lemmas.Nat.{pow_pos, shl-shr, xor_block, and_block, and_mask, and_le_l}
use lib.Bits.{bit_and, bit_xor, xor_shifted, and_zero_r}
use Rattle.ghash.specs.CarryLess.{carry_less}
use Rattle.ghash.proofs.Carries.{right-xor, right-none, right-shift, right-digit}

-- the lowest of each four bits, n of them
pub fourths : ℕ → ℕ → ℕ
fourths zero x = 0
fourths (suc n) x = fourths n (x / 16) * 16 + x % 2

-- the mask of them
pub mask : ℕ → ℕ
mask zero = 0
mask (suc n) = mask n * 16 + 1

-- the first n digits of w in base 16 are at most b
abbrev AtMost : ℕ → ℕ → ℕ → Type 0
AtMost zero b w = Unit {0}
AtMost (suc n) b w = (w % 16 ≤ b) × AtMost n b (w / 16)

fourths-none : (n : ℕ) → fourths n 0 ≡ 0
unfolding fourths
fourths-none zero = refl
fourths-none (suc n) = ap (λ t. t * 16 + 0) (fourths-none n)

pub fourths-shift : (n w : ℕ) → fourths (suc n) (w * 16) ≡ fourths n w * 16
unfolding fourths
fourths-shift n w =
    let e : w * 16 % 2 ≡ 0 = omega arith in
    ap (λ t. fourths n (w * 16 / 16) * 16 + t) e
    ∙ ap (λ t. fourths n t * 16 + 0) (shl-shr w 4)
    ∙ omega arith

-- the bits that are taken are taken once more
fourths-twice : (j k x : ℕ) → fourths (j + k) (fourths k x) ≡ fourths k x
unfolding fourths
fourths-twice j zero x = fourths-none (j + 0)
fourths-twice j (suc k) x =
    let h = fourths k (x / 16) in
    let d = x % 2 in
    let e : j + suc k ≡ suc (j + k) = omega arith in
    let q : (h * 16 + d) / 16 ≡ h = omega arith in
    let r : (h * 16 + d) % 2 ≡ d = omega arith in
    ap (λ t. fourths t (h * 16 + d)) e
    ∙ ap (λ t. fourths (j + k) ((h * 16 + d) / 16) * 16 + t) r
    ∙ ap (λ t. fourths (j + k) t * 16 + d) q
    ∙ ap (λ t. t * 16 + d) (fourths-twice j k (x / 16))

parity : (p q v w : ℕ) → p ≡ v % 2 → q ≡ w % 2 → bit_xor p q ≡ (v + w) % 2
parity zero zero v w e f = omega arith
parity zero (suc zero) v w e f = omega arith
parity (suc zero) zero v w e f = omega arith
parity (suc zero) (suc zero) v w e f = omega arith
parity (suc (suc p)) q v w e f = absurd (omega arith)
parity zero (suc (suc q)) v w e f = absurd (omega arith)
parity (suc zero) (suc (suc q)) v w e f = absurd (omega arith)

-- a sum of digits that carries nothing
sum-fourths : (n p q v w : ℕ) → AtMost n p v → AtMost n q w → p + q ≤ 15 → fourths n (v + w) ≡ bit_xor (fourths n v) (fourths n w)
unfolding fourths
sum-fourths zero p q v w _ _ _ = refl
sum-fourths (suc n) p q v w hv hw le =
    let one = hv.0 in
    let two = hw.0 in
    let e : (v + w) / 16 ≡ v / 16 + w / 16 = omega arith in
    ap (λ t. fourths n t * 16 + (v + w) % 2) e
    ∙ ap (λ t. t * 16 + (v + w) % 2) (sum-fourths n p q (v / 16) (w / 16) hv.1 hw.1 le)
    ∙ ap (λ t. bit_xor (fourths n (v / 16)) (fourths n (w / 16)) * 16 + t) (sym (parity (v % 2) (w % 2) v w refl refl))
    ∙ sym (xor_block 4 (fourths n (v / 16)) (fourths n (w / 16)) (v % 2) (w % 2) (omega arith) (omega arith))

sum-at_most : (n p q v w : ℕ) → AtMost n p v → AtMost n q w → p + q ≤ 15 → AtMost n (p + q) (v + w)
sum-at_most zero p q v w _ _ _ = tt
sum-at_most (suc n) p q v w hv hw le =
    let one = hv.0 in
    let two = hw.0 in
    let e : (v + w) / 16 ≡ v / 16 + w / 16 = omega arith in
    let P : ℕ → Type 0 = λ t. AtMost n (p + q) t in
    (omega arith, subst P (sym e) (sum-at_most n p q (v / 16) (w / 16) hv.1 hw.1 le))

none-at_most : (n b : ℕ) → AtMost n b 0
none-at_most zero b = tt
none-at_most (suc n) b = (zero-le, none-at_most n b)

shift-at_most : (n b w : ℕ) → ((k : ℕ) → AtMost k b w) → AtMost n b (w * 16)
shift-at_most zero b w _ = tt
shift-at_most (suc n) b w h =
    let P : ℕ → Type 0 = λ t. AtMost n b t in
    (omega arith, subst P (sym (shl-shr w 4)) (h n))

fourths-at_most : (n k x : ℕ) → AtMost n 1 (fourths k x)
unfolding fourths
fourths-at_most zero k x = tt
fourths-at_most (suc n) zero x = none-at_most (suc n) 1
fourths-at_most (suc n) (suc k) x =
    let h = fourths k (x / 16) in
    let P : ℕ → Type 0 = λ t. AtMost n 1 t in
    let e : h ≡ (h * 16 + x % 2) / 16 = omega arith in
    (omega arith, subst P e (fourths-at_most n k (x / 16)))

digit-at_most : (n k x d : ℕ) → d < 2 → AtMost n 1 (d * fourths k x)
digit-at_most n k x zero _ = let P : ℕ → Type 0 = λ t. AtMost n 1 t in subst P (sym (zero-mul (fourths k x))) (none-at_most n 1)
digit-at_most n k x (suc zero) _ = let P : ℕ → Type 0 = λ t. AtMost n 1 t in subst P (sym (one-mul (fourths k x))) (fourths-at_most n k x)
digit-at_most n k x (suc (suc d)) h = absurd (omega arith)

spread : (u v d : ℕ) → u * (v * 16 + d) ≡ u * v * 16 + d * u
spread u v d = omega arith

-- the sums of bits in a product: one term for each bit on the right side
product-at_most : (m n k x y : ℕ) → m ≤ 15 → AtMost n m (fourths k x * fourths m y)
unfolding fourths
product-at_most zero n k x y _ =
    let P : ℕ → Type 0 = λ t. AtMost n 0 t in
    let e : 0 ≡ fourths k x * 0 = omega arith in
    subst P e (none-at_most n 0)
product-at_most (suc m) n k x y le =
    let u = fourths k x in
    let v = fourths m (y / 16) in
    let P : ℕ → Type 0 = λ t. AtMost n (suc m) t in
    let Q : ℕ → Type 0 = λ t. AtMost n t (u * v * 16 + y % 2 * u) in
    let e : m + 1 ≡ suc m = omega arith in
    let h : (i : ℕ) → AtMost i m (u * v) = λ i. product-at_most m i k x (y / 16) (omega arith) in
    subst P (sym (spread u v (y % 2)))
    (subst Q e (sum-at_most n m 1 (u * v * 16) (y % 2 * u) (shift-at_most n m (u * v) h) (digit-at_most n k x (y % 2) (omega arith)) (omega arith)))

digit-fourths : (j k x d : ℕ) → d < 2 → fourths (j + k) (d * fourths k x) ≡ d * fourths k x
digit-fourths j k x zero _ = ap (fourths (j + k)) (zero-mul (fourths k x)) ∙ fourths-none (j + k) ∙ sym (zero-mul (fourths k x))
digit-fourths j k x (suc zero) _ = ap (fourths (j + k)) (one-mul (fourths k x)) ∙ fourths-twice j k x ∙ sym (one-mul (fourths k x))
digit-fourths j k x (suc (suc d)) h = absurd (omega arith)

-- the last bits of the sums are the product without carries
pub product-fourths : (m j k n x y : ℕ) → m ≤ 15 → fourths k x < 2 ^ n →
    fourths (m + (j + k)) (fourths k x * fourths m y) ≡ carry_less n (fourths k x) (fourths m y)
unfolding fourths
product-fourths zero j k n x y _ _ =
    let e : fourths k x * 0 ≡ 0 = omega arith in
    ap (fourths (0 + (j + k))) e ∙ fourths-none (0 + (j + k)) ∙ sym (right-none n (fourths k x))
product-fourths (suc m) j k n x y le lt =
    let u = fourths k x in
    let v = fourths m (y / 16) in
    let d = y % 2 in
    let all = suc m + (j + k) in
    let e : all ≡ suc (m + (j + k)) = omega arith in
    let f : all ≡ suc m + j + k = omega arith in
    let h : (i : ℕ) → AtMost i m (u * v) = λ i. product-at_most m i k x (y / 16) (omega arith) in
    ap (fourths all) (spread u v d)
    ∙ sum-fourths all m 1 (u * v * 16) (d * u) (shift-at_most all m (u * v) h) (digit-at_most all k x d (omega arith)) (omega arith)
    ∙ ap (λ t. bit_xor t (fourths all (d * u)))
    (ap (λ t. fourths t (u * v * 16)) e
    ∙ fourths-shift (m + (j + k)) (u * v)
    ∙ ap (λ t. t * 16) (product-fourths m j k n x (y / 16) (omega arith) lt)
    ∙ sym (right-shift n 4 u v))
    ∙ ap (bit_xor (carry_less n u (v * 16))) (ap (λ t. fourths t (d * u)) f ∙ digit-fourths (suc m + j) k x d (omega arith) ∙ sym (right-digit n u d lt (omega arith)))
    ∙ sym (right-xor n u (v * 16) d)
    ∙ ap (carry_less n u) (xor_shifted v 4 d (omega arith))

-- the same by masks
and-mask : (n x : ℕ) → bit_and x (mask n) ≡ fourths n x
unfolding fourths mask
and-mask zero x = and_zero_r x
and-mask (suc n) x =
    let e : bit_and (x % 16) 1 ≡ x % 2 = and_mask (x % 16) 1 ∙ omega arith in
    ap (λ t. bit_and t (mask n * 16 + 1)) (sym (div-add-mod' x 16))
    ∙ and_block 4 (x / 16) (mask n) (x % 16) 1 (omega arith) (omega arith)
    ∙ ap (λ t. t * 16 + bit_and (x % 16) 1) (and-mask n (x / 16))
    ∙ ap (λ t. fourths n (x / 16) * 16 + t) e

pub and-shifted_mask : (n i x : ℕ) → bit_and x (mask n * 2 ^ i) ≡ fourths n (x / 2 ^ i) * 2 ^ i
and-shifted_mask n i x =
    let e : mask n * 2 ^ i ≡ mask n * 2 ^ i + 0 = omega arith in
    let r = x % 2 ^ i in
    ap (bit_and x) e
    ∙ ap (λ t. bit_and t (mask n * 2 ^ i + 0)) (sym (div-add-mod' x (2 ^ i)))
    ∙ and_block i (x / 2 ^ i) (mask n) r 0 (let h = pow_pos i in omega arith) (pow_pos i)
    ∙ ap (λ t. t * 2 ^ i + bit_and r 0) (and-mask n (x / 2 ^ i))
    ∙ ap (λ t. fourths n (x / 2 ^ i) * 2 ^ i + t) (and_zero_r r)
    ∙ omega arith

pub fourths-le : (n x : ℕ) → fourths n x ≤ x
fourths-le n x = let P : ℕ → Type 0 = λ t. t ≤ x in subst P (and-mask n x) (and_le_l x (mask n))

-- the masks of the code
abbrev pub word_mask : ℕ → ℕ
word_mask i = get_or (0x1111111111111111 ∷ 0x2222222222222222 ∷ 0x4444444444444444 ∷ 0x8888888888888888 ∷ []) i 0

abbrev pub other_mask : ℕ → ℕ
other_mask i = get_or (0x0111111111111111 ∷ 0x0222222222222222 ∷ 0x0444444444444444 ∷ 0x0888888888888888 ∷ []) i 0

abbrev pub wide_mask : ℕ → ℕ
wide_mask i = get_or (0x11111111111111111111111111111111 ∷ 0x22222222222222222222222222222222 ∷ 0x44444444444444444444444444444444 ∷ 0x88888888888888888888888888888888 ∷ []) i 0

pub word_mask-is : (i : ℕ) → i < 4 → word_mask i ≡ mask 16 * 2 ^ i
unfolding mask
word_mask-is zero _ = refl
word_mask-is (suc zero) _ = refl
word_mask-is (suc (suc zero)) _ = refl
word_mask-is (suc (suc (suc zero))) _ = refl
word_mask-is (suc (suc (suc (suc i)))) h = absurd (omega arith)

pub other_mask-is : (i : ℕ) → i < 4 → other_mask i ≡ mask 15 * 2 ^ i
unfolding mask
other_mask-is zero _ = refl
other_mask-is (suc zero) _ = refl
other_mask-is (suc (suc zero)) _ = refl
other_mask-is (suc (suc (suc zero))) _ = refl
other_mask-is (suc (suc (suc (suc i)))) h = absurd (omega arith)

pub wide_mask-is : (i : ℕ) → i < 4 → wide_mask i ≡ mask 32 * 2 ^ i
unfolding mask
wide_mask-is zero _ = refl
wide_mask-is (suc zero) _ = refl
wide_mask-is (suc (suc zero)) _ = refl
wide_mask-is (suc (suc (suc zero))) _ = refl
wide_mask-is (suc (suc (suc (suc i)))) h = absurd (omega arith)
