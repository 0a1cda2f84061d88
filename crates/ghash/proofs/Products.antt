-- x times a row is the next row, and the first row of a block is the block.
use Rattle.std.proofs.Common.{◌≡◌, ℕ, zero, suc, ◌+◌, ◌-◌, ◌*◌, ◌/◌, ◌%◌, ◌^◌, ◌<◌, arith, ap, refl, sym, subst, ◌∙◌, zero-add, add-one}
use Rattle.std.proofs.Math.Nat.{zero-mul, one-mul, pow-suc, mul-mod_left, div-eq_of_lt, div-add-mod'}
use Rattle.std.proofs.lemmas.Nat.{shl-shr, shr-shr, pow_pos}
use lib.Bits.{bit_xor, xor_assoc, xor_comm, xor_self, xor_zero_r, xor_zero_l, xor_shr, xor_mod, xor_shifted}
use Rattle.ghash.specs.Field.{coefficient, times_x, x_128, power, row, rows}

-- a number below 2, times r
pub digit_mul : (p q r : ℕ) → p < 2 → q < 2 → bit_xor p q * r ≡ bit_xor (p * r) (q * r)
digit_mul zero zero r _ _ = zero-mul r ∙ sym (xor_self (0 * r))
digit_mul zero (suc zero) r _ _ = sym (ap (λ t. bit_xor t (1 * r)) (zero-mul r) ∙ xor_zero_l (1 * r))
digit_mul (suc zero) zero r _ _ = sym (ap (bit_xor (1 * r)) (zero-mul r) ∙ xor_zero_r (1 * r))
digit_mul (suc zero) (suc zero) r _ _ = zero-mul r ∙ sym (xor_self (1 * r))
digit_mul zero (suc (suc q)) r _ h = absurd (omega arith)
digit_mul (suc zero) (suc (suc q)) r _ h = absurd (omega arith)
digit_mul (suc (suc p)) q r h _ = absurd (omega arith)

pub exchange : (a b c d : ℕ) → bit_xor (bit_xor a b) (bit_xor c d) ≡ bit_xor (bit_xor a c) (bit_xor b d)
exchange a b c d =
    xor_assoc a b (bit_xor c d)
    ∙ ap (bit_xor a) (sym (xor_assoc b c d) ∙ ap (λ t. bit_xor t d) (xor_comm b c) ∙ xor_assoc c b d)
    ∙ sym (xor_assoc a c (bit_xor b d))

pub times_x-xor : (u v : ℕ) → times_x (bit_xor u v) ≡ bit_xor (times_x u) (times_x v)
times_x-xor u v =
    ap (λ t. bit_xor t (bit_xor u v % 2 * x_128)) (xor_shr u v 1)
    ∙ ap (bit_xor (bit_xor (u / 2) (v / 2)))
    (ap (λ t. t * x_128) (xor_mod u v 1) ∙ digit_mul (u % 2) (v % 2) x_128 (omega arith) (omega arith))
    ∙ exchange (u / 2) (v / 2) (u % 2 * x_128) (v % 2 * x_128)

pub times_x-digit : (d p : ℕ) → d < 2 → times_x (d * p) ≡ d * times_x p
times_x-digit zero p _ = ap times_x (zero-mul p) ∙ sym (zero-mul (times_x p))
times_x-digit (suc zero) p _ = ap times_x (one-mul p) ∙ sym (one-mul (times_x p))
times_x-digit (suc (suc d)) p h = absurd (omega arith)

-- x times a row is the next row
pub times_x-row : (b i m : ℕ) → times_x (row b i m) ≡ row b (i + 1) m
unfolding row power
times_x-row b i zero = refl
times_x-row b i (suc m) =
    times_x-xor (row b i m) (coefficient b m * power (i + m))
    ∙ ap (λ t. bit_xor t (times_x (coefficient b m * power (i + m)))) (times_x-row b i m)
    ∙ ap (bit_xor (row b (i + 1) m))
    (times_x-digit (coefficient b m) (power (i + m)) (omega arith)
    ∙ (let e : suc (i + m) ≡ i + 1 + m = omega arith in ap (λ k. coefficient b m * power k) e))

times_x-pow : (k : ℕ) → times_x (2 ^ suc k) ≡ 2 ^ k
times_x-pow k =
    ap times_x (pow-suc 2 k)
    ∙ ap (λ t. bit_xor t (2 ^ k * 2 % 2 * x_128)) (shl-shr (2 ^ k) 1)
    ∙ ap (λ t. bit_xor (2 ^ k) (t * x_128)) (mul-mod_left (2 ^ k) 2)
    ∙ xor_zero_r (2 ^ k)

power-low : (j k : ℕ) → j + k ≡ 127 → power j ≡ 2 ^ k
unfolding power
power-low zero k e = let f : 127 ≡ k = omega arith in ap (λ t. 2 ^ t) f
power-low (suc j) k e = ap times_x (power-low j (suc k) (omega arith)) ∙ times_x-pow k

spread : (d r p : ℕ) → d * (p * 2) + r * p ≡ (d * 2 + r) * p
spread d r p = omega arith

digit_lt : (r p : ℕ) → r < 2 → 0 < p → r * p < p * 2
digit_lt zero p _ h = omega arith
digit_lt (suc zero) p _ h = omega arith
digit_lt (suc (suc r)) p lt _ = absurd (omega arith)

-- a digit at place k, below the digits above it
joined : (b k : ℕ) → bit_xor (b / 2 ^ suc k * 2 ^ suc k) (b / 2 ^ k % 2 * 2 ^ k) ≡ b / 2 ^ k * 2 ^ k
joined b k =
    let q = b / 2 ^ k in
    let e : b / 2 ^ suc k ≡ q / 2 = (let f : suc k ≡ k + 1 = omega arith in ap (λ t. b / 2 ^ t) f ∙ sym (shr-shr b k 1)) in
    let small : q % 2 * 2 ^ k < 2 ^ suc k = rw pow-suc (digit_lt (q % 2) (2 ^ k) (omega arith) (pow_pos k)) in
    xor_shifted (b / 2 ^ suc k) (suc k) (q % 2 * 2 ^ k) small
    ∙ ap (λ t. t * 2 ^ suc k + q % 2 * 2 ^ k) e
    ∙ ap (λ t. q / 2 * t + q % 2 * 2 ^ k) (pow-suc 2 k)
    ∙ spread (q / 2) (q % 2) (2 ^ k)
    ∙ ap (λ t. t * 2 ^ k) (div-add-mod' q 2)

-- the first m coefficients of a block
row-low : (b m k : ℕ) → m + k ≡ 128 → b < 2 ^ 128 → row b 0 m ≡ b / 2 ^ k * 2 ^ k
unfolding row
row-low b zero k e lt =
    let f : 128 ≡ k = omega arith in
    let P : ℕ → Type 0 = λ t. b < 2 ^ t in
    sym (ap (λ t. t * 2 ^ k) (div-eq_of_lt (subst P f lt)) ∙ zero-mul (2 ^ k))
row-low b (suc m) k e lt =
    let f : 127 - m ≡ k = omega arith in
    ap (λ t. bit_xor t (coefficient b m * power (0 + m))) (row-low b m (suc k) (omega arith) lt)
    ∙ ap (λ t. bit_xor (b / 2 ^ suc k * 2 ^ suc k) (coefficient b m * t)) (ap power (zero-add m) ∙ power-low m k (omega arith))
    ∙ ap (λ t. bit_xor (b / 2 ^ suc k * 2 ^ suc k) (b / 2 ^ t % 2 * 2 ^ k)) f
    ∙ joined b k

-- the first row of a block is the block
pub row-first : (b : ℕ) → b < 2 ^ 128 → row b 0 128 ≡ b
row-first b lt = row-low b 128 0 refl lt ∙ omega arith

pub rows-zero : (a b : ℕ) → 0 ≡ rows a b 0
unfolding rows
rows-zero a b = refl

-- a set bit adds a row, and another adds nothing
pub row_added : (a b n s v : ℕ) → s ≡ rows a b n → v ≡ row b n 128 → coefficient a n ≡ 1 → bit_xor s v ≡ rows a b (n + 1)
unfolding rows
row_added a b n s v e f h = rw (add-one, e, f, h, one-mul) refl

pub row_passed : (a b n s : ℕ) → s ≡ rows a b n → coefficient a n ≡ 0 → s ≡ rows a b (n + 1)
unfolding rows
row_passed a b n s e h = rw (add-one, h, zero-mul, xor_zero_r) e
