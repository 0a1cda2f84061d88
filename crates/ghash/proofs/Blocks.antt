-- The product of two blocks without carries: by products of words, and folded back it is the product in GF(2^128).
use Rattle.std.proofs.Common.{◌≡◌, ℕ, zero, suc, ◌+◌, ◌-◌, ◌*◌, ◌/◌, ◌%◌, ◌^◌, ◌<◌, arith, ap, refl, sym, ◌∙◌, zero-add}
use Rattle.std.proofs.Math.Nat.{div-add-mod', div-one}
use Rattle.std.proofs.lemmas.Nat.{shr-shr}
use lib.Bits.{bit_xor, xor_assoc, xor_comm, xor_self, xor_zero_l, xor_shifted}
use Rattle.ghash.specs.Field.{row, rows, product}
use Rattle.ghash.specs.CarryLess.{carry_less}
use Rattle.ghash.specs.Windows.{moved}
use Rattle.ghash.proofs.Products.{exchange, row-first}
use Rattle.ghash.proofs.Moves.{moved-xor, moved-zero, moved-add, moved-term, moved-even}
use Rattle.ghash.proofs.Carries.{shift-xor, left-xor, right-xor, right-shift, left-split, left-low, below}

-- Karatsuba: both mixed products, from the product of the sums and the two others
cancelled : (p q r s : ℕ) → bit_xor (bit_xor (bit_xor p q) (bit_xor r s)) (bit_xor p s) ≡ bit_xor q r
cancelled p q r s =
    ap (λ t. bit_xor t (bit_xor p s)) (ap (bit_xor (bit_xor p q)) (xor_comm r s) ∙ exchange p q s r)
    ∙ xor_comm (bit_xor (bit_xor p s) (bit_xor q r)) (bit_xor p s)
    ∙ sym (xor_assoc (bit_xor p s) (bit_xor p s) (bit_xor q r))
    ∙ ap (λ t. bit_xor t (bit_xor q r)) (xor_self (bit_xor p s))
    ∙ xor_zero_l (bit_xor q r)

pub mixed : (a b c d : ℕ) →
    bit_xor (carry_less 64 (bit_xor a b) (bit_xor c d)) (bit_xor (carry_less 64 a c) (carry_less 64 b d)) ≡ bit_xor (carry_less 64 a d) (carry_less 64 b c)
mixed a b c d =
    let p = carry_less 64 a c in
    let q = carry_less 64 a d in
    let r = carry_less 64 b c in
    let s = carry_less 64 b d in
    ap (λ t. bit_xor t (bit_xor p s))
    (left-xor 64 a b (bit_xor c d)
    ∙ ap (λ t. bit_xor t (carry_less 64 b (bit_xor c d))) (right-xor 64 a c d)
    ∙ ap (bit_xor (bit_xor p q)) (right-xor 64 b c d))
    ∙ cancelled p q r s

-- the product of a word and a block
by_half : (a b : ℕ) → carry_less 64 a b ≡ bit_xor (carry_less 64 a (b / 2 ^ 64) * 2 ^ 64) (carry_less 64 a (b % 2 ^ 64))
by_half a b =
    let c = b / 2 ^ 64 in
    let d = b % 2 ^ 64 in
    ap (carry_less 64 a) (sym (xor_shifted c 64 d (omega arith) ∙ div-add-mod' b (2 ^ 64)))
    ∙ right-xor 64 a (c * 2 ^ 64) d
    ∙ ap (λ t. bit_xor t (carry_less 64 a d)) (right-shift 64 64 a c)

-- the product of two blocks by four products of words
by_halves : (a b : ℕ) →
    bit_xor
    (bit_xor (carry_less 64 (a / 2 ^ 64) (b / 2 ^ 64) * 2 ^ 128) (carry_less 64 (a % 2 ^ 64) (b % 2 ^ 64)))
    (bit_xor (carry_less 64 (a / 2 ^ 64) (b % 2 ^ 64)) (carry_less 64 (a % 2 ^ 64) (b / 2 ^ 64)) * 2 ^ 64)
    ≡ carry_less 128 a b
by_halves a b =
    let p = carry_less 64 (a / 2 ^ 64) (b / 2 ^ 64) in
    let q = carry_less 64 (a / 2 ^ 64) (b % 2 ^ 64) in
    let r = carry_less 64 (a % 2 ^ 64) (b / 2 ^ 64) in
    let s = carry_less 64 (a % 2 ^ 64) (b % 2 ^ 64) in
    let e : p * 2 ^ 64 * 2 ^ 64 ≡ p * 2 ^ 128 = omega arith in
    ap (bit_xor (bit_xor (p * 2 ^ 128) s)) (sym (shift-xor 64 q r))
    ∙ exchange (p * 2 ^ 128) s (q * 2 ^ 64) (r * 2 ^ 64)
    ∙ ap (bit_xor (bit_xor (p * 2 ^ 128) (q * 2 ^ 64))) (xor_comm s (r * 2 ^ 64))
    ∙ xor_comm (bit_xor (p * 2 ^ 128) (q * 2 ^ 64)) (bit_xor (r * 2 ^ 64) s)
    ∙ ap (λ t. bit_xor (bit_xor (r * 2 ^ 64) s) (bit_xor t (q * 2 ^ 64))) (sym e)
    ∙ ap (bit_xor (bit_xor (r * 2 ^ 64) s)) (shift-xor 64 (p * 2 ^ 64) q)
    ∙ ap (λ t. bit_xor (bit_xor (r * 2 ^ 64) s) (t * 2 ^ 64)) (sym (by_half (a / 2 ^ 64) b))
    ∙ ap (λ t. bit_xor t (carry_less 64 (a / 2 ^ 64) b * 2 ^ 64)) (sym (by_half (a % 2 ^ 64) b) ∙ left-low 64 a b)
    ∙ sym (left-split 64 64 a b)

pub product-below : (a b : ℕ) → b < 2 ^ 64 → carry_less 64 a b < 2 ^ 127
product-below a b lt = below 64 63 a b lt

-- what the code puts together
pub by_words : (a b high low middle : ℕ) →
    high ≡ carry_less 64 (a / 2 ^ 64) (b / 2 ^ 64) → low ≡ carry_less 64 (a % 2 ^ 64) (b % 2 ^ 64) → low < 2 ^ 128 →
    middle ≡ bit_xor (carry_less 64 (bit_xor (a / 2 ^ 64) (a % 2 ^ 64)) (bit_xor (b / 2 ^ 64) (b % 2 ^ 64))) (bit_xor high low) →
    bit_xor (high * 2 ^ 128 + low) (middle / 2 ^ 64 * 2 ^ 128 + middle * 2 ^ 64 % 2 ^ 128) ≡ carry_less 128 a b
by_words a b high low middle e f lt g =
    let whole : middle / 2 ^ 64 * 2 ^ 128 + middle * 2 ^ 64 % 2 ^ 128 ≡ middle * 2 ^ 64 = omega arith in
    let p = carry_less 64 (a / 2 ^ 64) (b / 2 ^ 64) in
    let s = carry_less 64 (a % 2 ^ 64) (b % 2 ^ 64) in
    let m = carry_less 64 (bit_xor (a / 2 ^ 64) (a % 2 ^ 64)) (bit_xor (b / 2 ^ 64) (b % 2 ^ 64)) in
    ap (bit_xor (high * 2 ^ 128 + low)) (whole ∙ ap (λ t. t * 2 ^ 64) (g ∙ ap (λ t. bit_xor m (bit_xor t low)) e ∙ ap (λ t. bit_xor m (bit_xor p t)) f ∙ mixed (a / 2 ^ 64) (a % 2 ^ 64) (b / 2 ^ 64) (b % 2 ^ 64)))
    ∙ ap (λ t. bit_xor t (bit_xor (carry_less 64 (a / 2 ^ 64) (b % 2 ^ 64)) (carry_less 64 (a % 2 ^ 64) (b / 2 ^ 64)) * 2 ^ 64))
    (sym (xor_shifted high 128 low lt) ∙ ap (λ t. bit_xor (t * 2 ^ 128) low) e ∙ ap (bit_xor (p * 2 ^ 128)) f)
    ∙ by_halves a b

-- the first n rows of the product in the field are the product without carries of the first n coefficients
moved-double : (n v : ℕ) → moved (suc n) (v * 2) ≡ moved n v
moved-double n v =
    let e : suc n ≡ n + 1 = omega arith in
    ap (λ t. moved t (v * 2)) e ∙ moved-add n 1 (v * 2) ∙ ap (moved n) (moved-even 1 v)

rows-carry_less : (n k a b : ℕ) → n + k ≡ 128 → a < 2 ^ 128 → b < 2 ^ 128 → moved n (carry_less n (a / 2 ^ k) b * 2) ≡ rows a b n
unfolding carry_less rows
rows-carry_less zero k a b e la lb = moved-zero 0
rows-carry_less (suc n) k a b e la lb =
    let c = a / 2 ^ k in
    let d = c % 2 in
    let q = carry_less n (c / 2) b in
    let up : k + 1 ≡ suc k = omega arith in
    let at : k ≡ 127 - n = omega arith in
    ap (moved (suc n)) (sym (shift-xor 1 (d * b) (q * 2)))
    ∙ moved-xor (suc n) (d * b * 2) (q * 2 * 2)
    ∙ ap (λ t. bit_xor t (moved (suc n) (q * 2 * 2))) (moved-double n (d * b))
    ∙ ap (bit_xor (moved n (d * b)))
    (moved-double n (q * 2)
    ∙ ap (λ t. moved n (carry_less n t b * 2)) (shr-shr a k 1 ∙ ap (λ t. a / 2 ^ t) up)
    ∙ rows-carry_less n (suc k) a b (omega arith) la lb)
    ∙ xor_comm (moved n (d * b)) (rows a b n)
    ∙ ap (bit_xor (rows a b n))
    (ap (λ t. moved n (d * t)) (sym (row-first b lb))
    ∙ moved-term n d b 0 (omega arith)
    ∙ ap (λ t. d * row b t 128) (zero-add n)
    ∙ ap (λ t. a / 2 ^ t % 2 * row b n 128) at)

pub product-folded : (a b : ℕ) → a < 2 ^ 128 → b < 2 ^ 128 → moved 128 (carry_less 128 a b * 2) ≡ product a b
unfolding product
product-folded a b la lb = ap (λ t. moved 128 (carry_less 128 t b * 2)) (sym (div-one a)) ∙ rows-carry_less 128 0 a b refl la lb
