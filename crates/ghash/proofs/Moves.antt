-- x^n times a block, and a sum of 256 coefficients folded back.
use Rattle.std.proofs.Common.{◌≡◌, ℕ, zero, suc, ◌+◌, ◌*◌, ◌/◌, ◌%◌, ◌^◌, ◌<◌, List, get_or, arith, ap, refl, sym, ◌∙◌, zero-add}
use Rattle.std.specs.Prelude.{map}
use Rattle.std.specs.List.{range_with_len}
use Rattle.std.proofs.Math.Nat.{zero-mul, one-mul, pow-suc, mul-mod_left, div-add-mod'}
use Rattle.std.proofs.lemmas.Nat.{shl-shr}
use Rattle.std.proofs.lemmas.List.FromFn.{get_or-map-range_with_len}
use lib.Bits.{bit_xor, xor_assoc, xor_zero_r, xor_shr, xor_shifted}
use Rattle.ghash.specs.Field.{coefficient, times_x, x_128, power, row}
use Rattle.ghash.specs.Windows.{moved}
use Rattle.ghash.proofs.Products.{exchange, times_x-xor, times_x-digit, times_x-row, row-first}

pub times_x-even : (q : ℕ) → times_x (q * 2) ≡ q
times_x-even q =
    ap (λ t. bit_xor t (q * 2 % 2 * x_128)) (shl-shr q 1)
    ∙ ap (λ t. bit_xor q (t * x_128)) (mul-mod_left q 2)
    ∙ xor_zero_r q

pub moved-xor : (n u v : ℕ) → moved n (bit_xor u v) ≡ bit_xor (moved n u) (moved n v)
unfolding moved
moved-xor zero u v = refl
moved-xor (suc n) u v = ap times_x (moved-xor n u v) ∙ times_x-xor (moved n u) (moved n v)

pub moved-zero : (n : ℕ) → moved n 0 ≡ 0
unfolding moved
moved-zero zero = refl
moved-zero (suc n) = ap times_x (moved-zero n)

pub moved-add : (m n v : ℕ) → moved (m + n) v ≡ moved m (moved n v)
unfolding moved
moved-add zero n v = ap (λ t. moved t v) (zero-add n)
moved-add (suc m) n v =
    let e : suc m + n ≡ suc (m + n) = omega arith in
    ap (λ t. moved t v) e ∙ ap times_x (moved-add m n v)

pub moved-swap : (m n v : ℕ) → moved m (moved n v) ≡ moved n (moved m v)
moved-swap m n v =
    let e : m + n ≡ n + m = omega arith in
    sym (moved-add m n v) ∙ ap (λ t. moved t v) e ∙ moved-add n m v

moved-digit : (n d p : ℕ) → d < 2 → moved n (d * p) ≡ d * moved n p
unfolding moved
moved-digit zero d p _ = refl
moved-digit (suc n) d p h = ap times_x (moved-digit n d p h) ∙ times_x-digit d (moved n p) h

-- x^n times a term
pub moved-term : (n d b i : ℕ) → d < 2 → moved n (d * row b i 128) ≡ d * row b (i + n) 128
unfolding moved
moved-term zero d b i _ = let e : i ≡ i + 0 = omega arith in ap (λ t. d * row b t 128) e
moved-term (suc n) d b i h =
    let e : i + n + 1 ≡ i + suc n = omega arith in
    ap times_x (moved-term n d b i h)
    ∙ times_x-digit d (row b (i + n) 128) h
    ∙ ap (λ t. d * t) (times_x-row b (i + n) 128 ∙ ap (λ t. row b t 128) e)

pub moved-even : (n q : ℕ) → moved n (q * 2 ^ n) ≡ q
unfolding moved
moved-even zero q = omega arith
moved-even (suc n) q =
    let e : q * 2 ^ suc n ≡ q * 2 * 2 ^ n = rw pow-suc (omega arith) in
    ap (λ t. times_x (moved n t)) e ∙ ap times_x (moved-even n (q * 2)) ∙ times_x-even q

-- v (1 + x + x^2 + x^7)
folding : ℕ → ℕ
folding v = bit_xor (bit_xor v (moved 1 v)) (bit_xor (moved 2 v) (moved 7 v))

folding-xor : (u v : ℕ) → folding (bit_xor u v) ≡ bit_xor (folding u) (folding v)
unfolding folding
folding-xor u v =
    ap (λ t. bit_xor (bit_xor (bit_xor u v) t) (bit_xor (moved 2 (bit_xor u v)) (moved 7 (bit_xor u v)))) (moved-xor 1 u v)
    ∙ ap (λ t. bit_xor (bit_xor (bit_xor u v) (bit_xor (moved 1 u) (moved 1 v))) (bit_xor t (moved 7 (bit_xor u v)))) (moved-xor 2 u v)
    ∙ ap (λ t. bit_xor (bit_xor (bit_xor u v) (bit_xor (moved 1 u) (moved 1 v))) (bit_xor (bit_xor (moved 2 u) (moved 2 v)) t)) (moved-xor 7 u v)
    ∙ ap (λ t. bit_xor t (bit_xor (bit_xor (moved 2 u) (moved 2 v)) (bit_xor (moved 7 u) (moved 7 v)))) (exchange u v (moved 1 u) (moved 1 v))
    ∙ ap (bit_xor (bit_xor (bit_xor u (moved 1 u)) (bit_xor v (moved 1 v)))) (exchange (moved 2 u) (moved 2 v) (moved 7 u) (moved 7 v))
    ∙ exchange (bit_xor u (moved 1 u)) (bit_xor v (moved 1 v)) (bit_xor (moved 2 u) (moved 7 u)) (bit_xor (moved 2 v) (moved 7 v))

folding-digit : (d p : ℕ) → d < 2 → folding (d * p) ≡ d * folding p
unfolding folding moved
folding-digit zero p _ = ap folding (zero-mul p) ∙ sym (zero-mul (folding p))
folding-digit (suc zero) p _ = ap folding (one-mul p) ∙ sym (one-mul (folding p))
folding-digit (suc (suc d)) p h = absurd (omega arith)

folding-times_x : (p : ℕ) → folding (times_x p) ≡ times_x (folding p)
unfolding folding moved
folding-times_x p = sym
    (times_x-xor (bit_xor p (moved 1 p)) (bit_xor (moved 2 p) (moved 7 p))
    ∙ ap (λ t. bit_xor t (times_x (bit_xor (moved 2 p) (moved 7 p)))) (times_x-xor p (moved 1 p))
    ∙ ap (bit_xor (bit_xor (times_x p) (times_x (moved 1 p)))) (times_x-xor (moved 2 p) (moved 7 p)))

-- x^128 is 1 + x + x^2 + x^7: at each power, and then at each block
power-folded : (j : ℕ) → moved 128 (power j) ≡ folding (power j)
unfolding power folding moved
power-folded zero = refl
power-folded (suc j) = moved-swap 128 1 (power j) ∙ ap times_x (power-folded j) ∙ sym (folding-times_x (power j))

row-folded : (b m : ℕ) → moved 128 (row b 0 m) ≡ folding (row b 0 m)
unfolding row folding moved
row-folded b zero = moved-zero 128
row-folded b (suc m) =
    let d = coefficient b m in
    let p = power (0 + m) in
    let small : d < 2 = omega arith in
    moved-xor 128 (row b 0 m) (d * p)
    ∙ ap (λ t. bit_xor t (moved 128 (d * p))) (row-folded b m)
    ∙ ap (bit_xor (folding (row b 0 m))) (moved-digit 128 d p small ∙ ap (λ t. d * t) (power-folded (0 + m)) ∙ sym (folding-digit d p small))
    ∙ sym (folding-xor (row b 0 m) (d * p))

block-folded : (v : ℕ) → v < 2 ^ 128 → moved 128 v ≡ folding v
block-folded v lt =
    let e = row-first v lt in
    ap (moved 128) (sym e) ∙ row-folded v 128 ∙ ap folding e

-- the same by shifts: what the last seven coefficients leave behind comes in at the top
abbrev pub left_behind : ℕ → ℕ
left_behind r = bit_xor (bit_xor (r * 2 ^ 127 % 2 ^ 128) (r * 2 ^ 126 % 2 ^ 128)) (r * 2 ^ 121 % 2 ^ 128)

abbrev pub by_shifts : ℕ → ℕ
by_shifts w = bit_xor (bit_xor w (w / 2 ^ 1)) (bit_xor (w / 2 ^ 2) (w / 2 ^ 7))

by_shifts-xor : (u v : ℕ) → by_shifts (bit_xor u v) ≡ bit_xor (by_shifts u) (by_shifts v)
by_shifts-xor u v =
    ap (λ t. bit_xor (bit_xor (bit_xor u v) t) (bit_xor (bit_xor u v / 2 ^ 2) (bit_xor u v / 2 ^ 7))) (xor_shr u v 1)
    ∙ ap (λ t. bit_xor (bit_xor (bit_xor u v) (bit_xor (u / 2 ^ 1) (v / 2 ^ 1))) (bit_xor t (bit_xor u v / 2 ^ 7))) (xor_shr u v 2)
    ∙ ap (λ t. bit_xor (bit_xor (bit_xor u v) (bit_xor (u / 2 ^ 1) (v / 2 ^ 1))) (bit_xor (bit_xor (u / 2 ^ 2) (v / 2 ^ 2)) t)) (xor_shr u v 7)
    ∙ ap (λ t. bit_xor t (bit_xor (bit_xor (u / 2 ^ 2) (v / 2 ^ 2)) (bit_xor (u / 2 ^ 7) (v / 2 ^ 7)))) (exchange u v (u / 2 ^ 1) (v / 2 ^ 1))
    ∙ ap (bit_xor (bit_xor (bit_xor u (u / 2 ^ 1)) (bit_xor v (v / 2 ^ 1)))) (exchange (u / 2 ^ 2) (v / 2 ^ 2) (u / 2 ^ 7) (v / 2 ^ 7))
    ∙ exchange (bit_xor u (u / 2 ^ 1)) (bit_xor v (v / 2 ^ 1)) (bit_xor (u / 2 ^ 2) (u / 2 ^ 7)) (bit_xor (v / 2 ^ 2) (v / 2 ^ 7))

last-folded : (r : ℕ) → r < 128 → folding r ≡ by_shifts (bit_xor r (left_behind r))
unfolding folding moved
last-folded r lt =
    let f = λ (r : ℕ). by_shifts (bit_xor r (left_behind r)) in
    let e : map folding (range_with_len 0 128) ≡ map f (range_with_len 0 128) = refl in
    sym (get_or-map-range_with_len folding 0 128 r r 0 lt (omega arith))
    ∙ ap (λ (t : List ℕ). get_or t r 0) e
    ∙ get_or-map-range_with_len f 0 128 r r 0 lt (omega arith)

even-folded : (q : ℕ) → folding (q * 128) ≡ by_shifts (q * 128)
unfolding folding
even-folded q =
    let one : q * 128 ≡ q * 64 * 2 ^ 1 = omega arith in
    let two : q * 128 ≡ q * 32 * 2 ^ 2 = omega arith in
    let half : q * 64 ≡ q * 128 / 2 ^ 1 = omega arith in
    let fourth : q * 32 ≡ q * 128 / 2 ^ 2 = omega arith in
    let last : q ≡ q * 128 / 2 ^ 7 = omega arith in
    ap (λ t. bit_xor (bit_xor (q * 128) t) (bit_xor (moved 2 (q * 128)) (moved 7 (q * 128)))) (ap (moved 1) one ∙ moved-even 1 (q * 64) ∙ half)
    ∙ ap (λ t. bit_xor (bit_xor (q * 128) (q * 128 / 2 ^ 1)) (bit_xor t (moved 7 (q * 128)))) (ap (moved 2) two ∙ moved-even 2 (q * 32) ∙ fourth)
    ∙ ap (λ t. bit_xor (bit_xor (q * 128) (q * 128 / 2 ^ 1)) (bit_xor (q * 128 / 2 ^ 2) t)) (moved-even 7 q ∙ last)

folded-by_shifts : (v : ℕ) → v < 2 ^ 128 → moved 128 v ≡ by_shifts (bit_xor v (left_behind (v % 128)))
folded-by_shifts v lt =
    let q = v / 128 * 128 in
    let r = v % 128 in
    let d = left_behind r in
    let e : bit_xor q r ≡ v = xor_shifted (v / 128) 7 r (omega arith) ∙ div-add-mod' v 128 in
    block-folded v lt
    ∙ ap folding (sym e)
    ∙ folding-xor q r
    ∙ ap (λ t. bit_xor t (folding r)) (even-folded (v / 128))
    ∙ ap (bit_xor (by_shifts q)) (last-folded r (omega arith))
    ∙ sym (by_shifts-xor q (bit_xor r d))
    ∙ ap by_shifts (sym (xor_assoc q r d) ∙ ap (λ t. bit_xor t d) e)

-- both halves of a sum
pub folded_is : (high low : ℕ) → low < 2 ^ 128 → bit_xor high (by_shifts (bit_xor low (left_behind (low % 128)))) ≡ moved 128 (high * 2 ^ 128 + low)
folded_is high low lt =
    ap (bit_xor high) (sym (folded-by_shifts low lt))
    ∙ ap (λ t. bit_xor t (moved 128 low)) (sym (moved-even 128 high))
    ∙ sym (moved-xor 128 (high * 2 ^ 128) low)
    ∙ ap (moved 128) (xor_shifted high 128 low lt)
