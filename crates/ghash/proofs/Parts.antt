-- Products by some coefficients at a time.
use Rattle.std.proofs.Common.{◌≡◌, ℕ, zero, suc, ◌+◌, ◌-◌, ◌*◌, ◌/◌, ◌%◌, ◌^◌, ◌<◌, ◌≤◌, List, get_or, arith, ap, refl, sym, ◌∙◌, zero-add}
use Rattle.std.proofs.Math.Nat.{zero-mul, one-mul, mul-mod_left, zero-div, div-eq_of_lt}
use Rattle.std.proofs.Math.Pow.{mod-mod-pow, pow-lt}
use Rattle.std.proofs.lemmas.Nat.{pow-add, shl-shr, shr-shr, field_of, xor_block}
use lib.Bits.{bit_xor, xor_assoc, xor_comm, xor_zero_r, xor_zero_l, xor_shifted}
use Rattle.ghash.specs.Field.{coefficient, row, rows, product}
use Rattle.ghash.specs.Windows.{IsTable, moved}
use Rattle.ghash.proofs.Products.{exchange, row-first}
use Rattle.ghash.proofs.Sums.{product-xor}
use Rattle.ghash.proofs.Moves.{moved-xor, moved-zero, moved-add, moved-swap, moved-term, moved-even}

-- the sum over n coefficients from place k on, each moved k places back
unfoldable pub sum_from : ℕ → ℕ → ℕ → ℕ → ℕ
sum_from a b k zero = 0
sum_from a b k (suc n) = bit_xor (sum_from a b k n) (coefficient a (k + n) * row b n 128)

sum_from-rows : (a b n : ℕ) → sum_from a b 0 n ≡ rows a b n
unfolding sum_from rows
sum_from-rows a b zero = refl
sum_from-rows a b (suc n) =
    ap (λ t. bit_xor t (coefficient a (0 + n) * row b n 128)) (sum_from-rows a b n)
    ∙ ap (λ t. bit_xor (rows a b n) (coefficient a t * row b n 128)) (zero-add n)

-- some coefficients, and those behind them
sum_from-split : (a b k m n : ℕ) → sum_from a b k (m + n) ≡ bit_xor (sum_from a b k m) (moved m (sum_from a b (k + m) n))
unfolding sum_from
sum_from-split a b k m zero =
    let e : m + 0 ≡ m = omega arith in
    ap (sum_from a b k) e ∙ sym (xor_zero_r (sum_from a b k m)) ∙ ap (bit_xor (sum_from a b k m)) (sym (moved-zero m))
sum_from-split a b k m (suc n) =
    let e : m + suc n ≡ suc (m + n) = omega arith in
    let f : k + (m + n) ≡ k + m + n = omega arith in
    let g : m + n ≡ n + m = omega arith in
    let s = sum_from a b (k + m) n in
    let d = coefficient a (k + m + n) in
    ap (sum_from a b k) e
    ∙ ap (λ t. bit_xor t (coefficient a (k + (m + n)) * row b (m + n) 128)) (sum_from-split a b k m n)
    ∙ ap (λ t. bit_xor (bit_xor (sum_from a b k m) (moved m s)) (coefficient a t * row b (m + n) 128)) f
    ∙ ap (λ t. bit_xor (bit_xor (sum_from a b k m) (moved m s)) (d * row b t 128)) g
    ∙ ap (bit_xor (bit_xor (sum_from a b k m) (moved m s))) (sym (moved-term m d b n (omega arith)))
    ∙ xor_assoc (sum_from a b k m) (moved m s) (moved m (d * row b n 128))
    ∙ ap (bit_xor (sum_from a b k m)) (sym (moved-xor m s (d * row b n 128)))

-- the same coefficients give the same sum, and none of them no sum
sum_from-same : (a c b k l n : ℕ) → ((i : ℕ) → i < n → coefficient a (k + i) ≡ coefficient c (l + i)) → sum_from a b k n ≡ sum_from c b l n
unfolding sum_from
sum_from-same a c b k l zero _ = refl
sum_from-same a c b k l (suc n) h =
    ap (λ t. bit_xor t (coefficient a (k + n) * row b n 128)) (sum_from-same a c b k l n (λ i lt. h i (omega arith)))
    ∙ ap (λ t. bit_xor (sum_from c b l n) (t * row b n 128)) (h n (omega arith))

sum_from-none : (a b k n : ℕ) → ((i : ℕ) → i < n → coefficient a (k + i) ≡ 0) → sum_from a b k n ≡ 0
unfolding sum_from
sum_from-none a b k zero _ = refl
sum_from-none a b k (suc n) h =
    ap (λ t. bit_xor t (coefficient a (k + n) * row b n 128)) (sum_from-none a b k n (λ i lt. h i (omega arith)))
    ∙ xor_zero_l (coefficient a (k + n) * row b n 128)
    ∙ ap (λ t. t * row b n 128) (h n (omega arith))
    ∙ zero-mul (row b n 128)

-- a sum whose last coefficients are not set
sum_from-cut : (a b k m n : ℕ) → ((i : ℕ) → i < n → coefficient a (k + m + i) ≡ 0) → sum_from a b k (m + n) ≡ sum_from a b k m
sum_from-cut a b k m n h =
    sum_from-split a b k m n
    ∙ ap (λ t. bit_xor (sum_from a b k m) (moved m t)) (sum_from-none a b (k + m) n h)
    ∙ ap (bit_xor (sum_from a b k m)) (moved-zero m)
    ∙ xor_zero_r (sum_from a b k m)

-- a number times a power of two has no bit below
no_bit : (q n i : ℕ) → i < n → q * 2 ^ n / 2 ^ i % 2 ≡ 0
no_bit q n i lt =
    let m = n - i - 1 in
    let e : n ≡ m + 1 + i = omega arith in
    let f : q * 2 ^ n ≡ q * 2 ^ m * 2 * 2 ^ i = ap (λ t. q * 2 ^ t) e ∙ (rw (pow-add, pow-add) (omega arith)) in
    ap (λ t. t / 2 ^ i % 2) f ∙ ap (λ t. t % 2) (shl-shr (q * 2 ^ m * 2) i) ∙ mul-mod_left (q * 2 ^ m) 2

-- what the table holds is the sum over six coefficients
digit_of : (w u i : ℕ) → w ≡ u % 64 → i < 6 → w * 2 ^ 122 / 2 ^ (127 - i) % 2 ≡ u / 2 ^ (5 - i) % 2
digit_of w u zero e _ = omega arith
digit_of w u (suc zero) e _ = omega arith
digit_of w u (suc (suc zero)) e _ = omega arith
digit_of w u (suc (suc (suc zero))) e _ = omega arith
digit_of w u (suc (suc (suc (suc zero)))) e _ = omega arith
digit_of w u (suc (suc (suc (suc (suc zero))))) e _ = omega arith
digit_of w u (suc (suc (suc (suc (suc (suc i)))))) e h = absurd (omega arith)

digit_at : (a k i : ℕ) → k ≤ 122 → i < 6 → coefficient a (k + i) ≡ a / 2 ^ (122 - k) / 2 ^ (5 - i) % 2
digit_at a k i le lt =
    let e : 127 - (k + i) ≡ 122 - k + (5 - i) = omega arith in
    ap (λ t. a / 2 ^ t % 2) e ∙ ap (λ t. t % 2) (sym (shr-shr a (122 - k) (5 - i)))

pub window-sum : (table : List ℕ) (a b w k : ℕ) → IsTable table b → k ≤ 122 → w ≡ a / 2 ^ (122 - k) % 64 → get_or table w 0 ≡ sum_from a b k 6
unfolding product
window-sum table a b w k h le e =
    let v = w * 2 ^ 122 in
    h w (omega arith)
    ∙ sym (sum_from-rows v b 128)
    ∙ sum_from-cut v b 0 6 122 (λ i lt. no_bit w 122 (127 - (0 + 6 + i)) (omega arith))
    ∙ sum_from-same v a b 0 k 6
    (λ i lt. ap (λ t. v / 2 ^ (127 - t) % 2) (zero-add i) ∙ digit_of w (a / 2 ^ (122 - k)) i e lt ∙ sym (digit_at a k i le lt))

-- the same for six coefficients of half a block, and for its last four
pub half-sum : (table : List ℕ) (x b w k : ℕ) → IsTable table b → k ≤ 58 → w ≡ x / 2 ^ (58 - k) % 64 → get_or table w 0 ≡ sum_from (x * 2 ^ 64) b k 6
half-sum table x b w k h le e =
    let f : 122 - k ≡ 64 + (58 - k) = omega arith in
    window-sum table (x * 2 ^ 64) b w k h (omega arith)
    (e
    ∙ ap (λ t. t / 2 ^ (58 - k) % 64) (sym (shl-shr x 64))
    ∙ ap (λ t. t % 64) (shr-shr (x * 2 ^ 64) 64 (58 - k))
    ∙ ap (λ t. x * 2 ^ 64 / 2 ^ t % 64) (sym f))

pub last-sum : (table : List ℕ) (x b w : ℕ) → IsTable table b → w ≡ x % 16 * 4 → get_or table w 0 ≡ sum_from (x * 2 ^ 64) b 60 6
last-sum table x b w h e = window-sum table (x * 2 ^ 64) b w 60 h (omega arith) (omega arith)

-- the sum over coefficients of the first half of a block, and the same of the other half
unfoldable pub halves : ℕ → ℕ → ℕ → ℕ → ℕ → ℕ
halves x y b k n = bit_xor (sum_from (x * 2 ^ 64) b k n) (moved 64 (sum_from (y * 2 ^ 64) b k n))

halves-split : (x y b k m n : ℕ) → halves x y b k (m + n) ≡ bit_xor (halves x y b k m) (moved m (halves x y b (k + m) n))
unfolding halves
halves-split x y b k m n =
    let p = sum_from (x * 2 ^ 64) b k m in
    let q = sum_from (y * 2 ^ 64) b k m in
    let r = sum_from (x * 2 ^ 64) b (k + m) n in
    let s = sum_from (y * 2 ^ 64) b (k + m) n in
    ap (λ t. bit_xor t (moved 64 (sum_from (y * 2 ^ 64) b k (m + n)))) (sum_from-split (x * 2 ^ 64) b k m n)
    ∙ ap (λ t. bit_xor (bit_xor p (moved m r)) t) (ap (moved 64) (sum_from-split (y * 2 ^ 64) b k m n) ∙ moved-xor 64 q (moved m s) ∙ ap (bit_xor (moved 64 q)) (moved-swap 64 m s))
    ∙ exchange p (moved m r) (moved 64 q) (moved m (moved 64 s))
    ∙ ap (bit_xor (bit_xor p (moved 64 q))) (sym (moved-xor m r (moved 64 s)))

pub halves-none : (x y b k n : ℕ) → moved n 0 ≡ halves x y b k 0
unfolding halves sum_from
halves-none x y b k n = moved-zero n ∙ sym (moved-zero 64)

-- six coefficients more of both halves
pub halves-more : (x y b k j sum upper lower : ℕ) → moved (58 + 6 * j) sum ≡ halves x y b k (6 * j) →
    upper ≡ sum_from (x * 2 ^ 64) b (k + 6 * j) 6 → lower ≡ sum_from (y * 2 ^ 64) b (k + 6 * j) 6 →
    moved (58 + 6 * (j + 1)) (bit_xor (sum * 64) (bit_xor (upper * 2 ^ 64) lower)) ≡ halves x y b k (6 * (j + 1))
unfolding halves
halves-more x y b k j sum upper lower e f g =
    let n = 6 * j in
    let one : 58 + 6 * (j + 1) ≡ 58 + n + 6 = omega arith in
    let two : 58 + 6 * (j + 1) ≡ n + 64 = omega arith in
    let six : n + 6 ≡ 6 * (j + 1) = omega arith in
    let last = 58 + 6 * (j + 1) in
    moved-xor last (sum * 64) (bit_xor (upper * 2 ^ 64) lower)
    ∙ ap (λ t. bit_xor t (moved last (bit_xor (upper * 2 ^ 64) lower)))
    (ap (λ t. moved t (sum * 64)) one ∙ moved-add (58 + n) 6 (sum * 64) ∙ ap (moved (58 + n)) (moved-even 6 sum) ∙ e)
    ∙ ap (bit_xor (halves x y b k n))
    (ap (λ t. moved t (bit_xor (upper * 2 ^ 64) lower)) two
    ∙ moved-add n 64 (bit_xor (upper * 2 ^ 64) lower)
    ∙ ap (moved n) (moved-xor 64 (upper * 2 ^ 64) lower ∙ ap (λ t. bit_xor t (moved 64 lower)) (moved-even 64 upper))
    ∙ ap (λ t. moved n (bit_xor t (moved 64 lower))) f
    ∙ ap (λ t. moved n (bit_xor (sum_from (x * 2 ^ 64) b (k + n) 6) (moved 64 t))) g)
    ∙ sym (halves-split x y b k n 6)
    ∙ ap (halves x y b k) six

-- both sums together
pub halves-joined : (x y b first others : ℕ) → moved 88 first ≡ halves x y b 0 30 → moved 94 others ≡ halves x y b 30 36 →
    moved 128 (bit_xor (first * 2 ^ 36) others * 2 ^ 4) ≡ halves x y b 0 66
halves-joined x y b first others e f =
    let s = bit_xor (first * 2 ^ 36) others in
    moved-add 124 4 (s * 2 ^ 4)
    ∙ ap (moved 124) (moved-even 4 s)
    ∙ moved-xor 124 (first * 2 ^ 36) others
    ∙ ap (λ t. bit_xor t (moved 124 others)) (moved-add 88 36 (first * 2 ^ 36) ∙ ap (moved 88) (moved-even 36 first) ∙ e)
    ∙ ap (bit_xor (halves x y b 0 30)) (moved-add 30 94 others ∙ ap (moved 30) f)
    ∙ sym (halves-split x y b 0 30 36)

-- a coefficient of either half
upper_digit : (a i : ℕ) → i < 64 → coefficient (a / 2 ^ 64 * 2 ^ 64) (0 + i) ≡ coefficient a (0 + i)
upper_digit a i lt =
    let e : 127 - (0 + i) ≡ 64 + (63 - i) = omega arith in
    let q = a / 2 ^ 64 in
    ap (λ t. q * 2 ^ 64 / 2 ^ t % 2) e
    ∙ ap (λ t. t % 2) (sym (shr-shr (q * 2 ^ 64) 64 (63 - i)) ∙ ap (λ t. t / 2 ^ (63 - i)) (shl-shr q 64) ∙ shr-shr a 64 (63 - i))
    ∙ ap (λ t. a / 2 ^ t % 2) (sym e)

lower_digit : (a i : ℕ) → i < 64 → coefficient (a % 2 ^ 64 * 2 ^ 64) (0 + i) ≡ coefficient a (64 + i)
lower_digit a i lt =
    let e : 127 - (0 + i) ≡ 64 + (63 - i) = omega arith in
    let f : 127 - (64 + i) ≡ 63 - i = omega arith in
    let g : 64 ≡ i + 1 + (63 - i) = omega arith in
    let r = a % 2 ^ 64 in
    ap (λ t. r * 2 ^ 64 / 2 ^ t % 2) e
    ∙ ap (λ t. t % 2) (sym (shr-shr (r * 2 ^ 64) 64 (63 - i)) ∙ ap (λ t. t / 2 ^ (63 - i)) (shl-shr r 64))
    ∙ ap (λ t. a % 2 ^ t / 2 ^ (63 - i) % 2) g
    ∙ ap (λ t. t % 2) (field_of a (i + 1) (63 - i))
    ∙ mod-mod-pow (a / 2 ^ (63 - i)) i 1
    ∙ ap (λ t. a / 2 ^ t % 2) (sym f)

pub halves-product : (a b : ℕ) → halves (a / 2 ^ 64) (a % 2 ^ 64) b 0 66 ≡ product a b
unfolding halves product
halves-product a b =
    let x = a / 2 ^ 64 * 2 ^ 64 in
    let y = a % 2 ^ 64 * 2 ^ 64 in
    ap (λ t. bit_xor t (moved 64 (sum_from y b 0 66)))
    (sum_from-cut x b 0 64 2 (λ i lt. no_bit (a / 2 ^ 64) 64 (127 - (0 + 64 + i)) (omega arith)) ∙ sum_from-same x a b 0 0 64 (upper_digit a))
    ∙ ap (λ t. bit_xor (sum_from a b 0 64) (moved 64 t))
    (sum_from-cut y b 0 64 2 (λ i lt. no_bit (a % 2 ^ 64) 64 (127 - (0 + 64 + i)) (omega arith)) ∙ sum_from-same y a b 0 64 64 (lower_digit a))
    ∙ sym (sum_from-split a b 0 64 64)
    ∙ sum_from-rows a b 128

-- the products with a single coefficient and with none
pub product-single : (b n : ℕ) → n ≤ 127 → b < 2 ^ 128 → product (2 ^ (127 - n)) b ≡ moved n b
unfolding product sum_from
product-single b n le lt =
    let m = 127 - n in
    let a = 2 ^ m in
    let e : 128 ≡ n + (1 + m) = omega arith in
    let one : 1 * 2 ^ m ≡ a = omega arith in
    let here : coefficient a (0 + n + 0) ≡ 1 =
    (let f : 127 - (0 + n + 0) ≡ m = omega arith in
    ap (λ t. a / 2 ^ t % 2) f ∙ ap (λ t. t / 2 ^ m % 2) (sym one) ∙ ap (λ t. t % 2) (shl-shr 1 m)) in
    sym (sum_from-rows a b 128)
    ∙ ap (sum_from a b 0) e
    ∙ sum_from-split a b 0 n (1 + m)
    ∙ ap (λ t. bit_xor t (moved n (sum_from a b (0 + n) (1 + m))))
    (sum_from-none a b 0 n (λ i less.
    let up : 127 - n < 127 - (0 + i) = omega arith in
    ap (λ t. t % 2) (div-eq_of_lt (pow-lt up))))
    ∙ xor_zero_l (moved n (sum_from a b (0 + n) (1 + m)))
    ∙ ap (moved n)
    (sum_from-cut a b (0 + n) 1 m (λ i less.
    ap (λ t. t / 2 ^ (127 - (0 + n + 1 + i)) % 2) (sym one) ∙ no_bit 1 m (127 - (0 + n + 1 + i)) (omega arith))
    ∙ xor_zero_l (coefficient a (0 + n + 0) * row b 0 128)
    ∙ ap (λ t. t * row b 0 128) here
    ∙ one-mul (row b 0 128)
    ∙ row-first b lt)

pub product-none : (b : ℕ) → 0 ≡ product 0 b
unfolding product
product-none b = sym (sum_from-none 0 b 0 128 (λ i _. ap (λ t. t % 2) (zero-div (2 ^ (127 - (0 + i)))))) ∙ sum_from-rows 0 b 128

shifted-sum : (p q : ℕ) → bit_xor (p * 2 ^ 122) (q * 2 ^ 122) ≡ bit_xor p q * 2 ^ 122
shifted-sum p q =
    let e : p * 2 ^ 122 ≡ p * 2 ^ 122 + 0 = omega arith in
    let f : q * 2 ^ 122 ≡ q * 2 ^ 122 + 0 = omega arith in
    let zero_lt : 0 < 2 ^ 122 = omega arith in
    ap (λ t. bit_xor t (q * 2 ^ 122)) e
    ∙ ap (bit_xor (p * 2 ^ 122 + 0)) f
    ∙ xor_block 122 p q 0 0 zero_lt zero_lt
    ∙ omega arith

-- one more coefficient in front of others
pub entry-sum : (i w b : ℕ) → w < 2 ^ i → bit_xor (product (w * 2 ^ 122) b) (product (2 ^ i * 2 ^ 122) b) ≡ product ((2 ^ i + w) * 2 ^ 122) b
entry-sum i w b lt =
    let e : bit_xor (2 ^ i) w ≡ 2 ^ i + w = (let f : 2 ^ i ≡ 1 * 2 ^ i = omega arith in ap (λ t. bit_xor t w) f ∙ xor_shifted 1 i w lt ∙ omega arith) in
    let p = w * 2 ^ 122 in
    let q = 2 ^ i * 2 ^ 122 in
    sym (product-xor p q b)
    ∙ ap (λ t. product t b)
    (xor_comm p q ∙ shifted-sum (2 ^ i) w ∙ ap (λ t. t * 2 ^ 122) e)
