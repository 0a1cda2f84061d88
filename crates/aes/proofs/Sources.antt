-- Words that are made of others by shifts, masks and sums: each of their bits is the sum of some bits of the others, which are found by computation.
use Rattle.std.proofs.Common.{◌≡◌, ℕ, zero, suc, ◌+◌, ◌-◌, ◌*◌, ◌/◌, ◌%◌, ◌^◌, ◌<◌, List, [], ◌∷◌, get_or, refl, ap, sym, ◌∙◌, arith, Bool, true, false, nat_lt, nat_eq}
use Rattle.std.specs.Prelude.{map, if◌then◌else◌}
use Rattle.std.specs.Int.{bit_at}
use Rattle.std.specs.List.{range_with_len}
use Rattle.std.proofs.lemmas.Bool.{ltb-true, ltb-false, eqb-true}
use Rattle.std.proofs.lemmas.Nat.{shr-shr, field_of, pow_pos, and_mask, shr_le}
use Rattle.std.proofs.lemmas.List.FromFn.{get_or-map-range_with_len}
use Rattle.std.proofs.lemmas.Nat.Bits.{bit_at-zero, bit_at-lt, bit_at_above, bit_at_cat_low, bit_at_cat_high}
use Rattle.std.proofs.Math.Pow.{mod-mod-pow}
use lib.Bits.{bit_xor, bit_and, xor_assoc, xor_comm, xor_self, xor_zero_r, and_zero_r, xor_lt, and_le_l}
use Rattle.aes.proofs.BitsAt.{xor_at, and_at}

-- a word made of those of a list
pub data Word : Type 0 where
  Input : ℕ → Word
  Right : ℕ → Word → Word
  Left : ℕ → Word → Word
  Masked : ℕ → Word → Word
  Sum : Word → Word → Word

unfoldable pub value : List ℕ → Word → ℕ
value env (Input n) = get_or env n 0
value env (Right k w) = value env w / 2 ^ k
value env (Left k w) = value env w * 2 ^ k % 2 ^ 64
value env (Masked m w) = bit_and (value env w) m
value env (Sum a b) = bit_xor (value env a) (value env b)

-- bit i of a list of words of 64 bits
abbrev pub bit_in : List ℕ → ℕ → ℕ
bit_in env i = bit_at (get_or env (i / 64) 0) (i % 64)

-- the sum of some bits of a list of words
unfoldable pub total : List ℕ → List ℕ → ℕ
total env [] = 0
total env (i ∷ is) = bit_xor (bit_in env i) (total env is)

-- one more bit in a sum, in order; the same bit twice is none
unfoldable pub toggle : ℕ → List ℕ → List ℕ
toggle i [] = i ∷ []
toggle i (x ∷ xs) = if nat_eq i x then xs else (if nat_lt i x then i ∷ x ∷ xs else x ∷ toggle i xs)

unfoldable pub merged : List ℕ → List ℕ → List ℕ
merged [] ys = ys
merged (x ∷ xs) ys = toggle x (merged xs ys)

-- the bits whose sum is bit p of a word
unfoldable pub sources : Word → ℕ → List ℕ
sources (Input n) p = if nat_lt p 64 then (64 * n + p) ∷ [] else []
sources (Right k w) p = sources w (k + p)
sources (Left k w) p = if nat_lt p 64 then (if nat_lt p k then [] else sources w (p - k)) else []
sources (Masked m w) p = if nat_lt 0 (bit_at m p) then sources w p else []
sources (Sum a b) p = merged (sources a p) (sources b p)

swap : (a b c : ℕ) → bit_xor a (bit_xor b c) ≡ bit_xor b (bit_xor a c)
swap a b c = sym (xor_assoc a b c) ∙ ap (λ (t : ℕ). bit_xor t c) (xor_comm a b) ∙ xor_assoc b a c

cancel : (a c : ℕ) → c ≡ bit_xor a (bit_xor a c)
cancel a c = sym (ap (λ (t : ℕ). bit_xor t c) (xor_self a)) ∙ xor_assoc a a c

-- by whether a test holds
by_test : (P : Bool → Type 0) (b : Bool) → (b ≡ true → P true) → (b ≡ false → P false) → P b
by_test P true t f = t refl
by_test P false t f = f refl

total-toggle : (env : List ℕ) (i : ℕ) (xs : List ℕ) → total env (toggle i xs) ≡ bit_xor (bit_in env i) (total env xs)
unfolding total toggle
total-toggle env i [] = refl
total-toggle env i (x ∷ xs) =
    by_test (λ (b : Bool). total env (if b then xs else (if nat_lt i x then i ∷ x ∷ xs else x ∷ toggle i xs)) ≡ bit_xor (bit_in env i) (bit_xor (bit_in env x) (total env xs)))
    (nat_eq i x)
    (λ e. cancel (bit_in env i) (total env xs) ∙ ap (λ (j : ℕ). bit_xor (bit_in env i) (bit_xor (bit_in env j) (total env xs))) (eqb-true i x e))
    (λ _. by_test (λ (b : Bool). total env (if b then i ∷ x ∷ xs else x ∷ toggle i xs) ≡ bit_xor (bit_in env i) (bit_xor (bit_in env x) (total env xs)))
    (nat_lt i x) (λ _. refl)
    (λ _. ap (bit_xor (bit_in env x)) (total-toggle env i xs) ∙ swap (bit_in env x) (bit_in env i) (total env xs)))

total-merged : (env xs ys : List ℕ) → total env (merged xs ys) ≡ bit_xor (total env xs) (total env ys)
unfolding total merged
total-merged env [] ys = refl
total-merged env (x ∷ xs) ys =
    total-toggle env x (merged xs ys)
    ∙ ap (bit_xor (bit_in env x)) (total-merged env xs ys)
    ∙ sym (xor_assoc (bit_in env x) (total env xs) (total env ys))

left_below : (v k p : ℕ) → p < 64 → bit_at (v * 2 ^ k % 2 ^ 64) p ≡ bit_at (v * 2 ^ k + 0) p
left_below v k p lt =
    let e : 63 - p + 1 + p ≡ 64 = omega arith in
    let z : v * 2 ^ k ≡ v * 2 ^ k + 0 = omega arith in
    ap (λ (n : ℕ). v * 2 ^ k % 2 ^ n / 2 ^ p % 2) (sym e)
    ∙ ap (λ (t : ℕ). t % 2) (field_of (v * 2 ^ k) (63 - p + 1) p)
    ∙ mod-mod-pow (v * 2 ^ k / 2 ^ p) (63 - p) 1
    ∙ ap (λ (t : ℕ). bit_at t p) z

module _ (env : List ℕ) (fits : (n : ℕ) → get_or env n 0 < 2 ^ 64) where
  input_at : (n p : ℕ) → bit_at (get_or env n 0) p ≡ total env (sources (Input n) p)
  unfolding total sources
  input_at n p =
      by_test (λ (b : Bool). bit_at (get_or env n 0) p ≡ total env (if b then (64 * n + p) ∷ [] else []))
      (nat_lt p 64)
      (λ e.
      let lt : p < 64 = ltb-true p 64 e in
      let q : (64 * n + p) / 64 ≡ n = omega arith in
      let r : (64 * n + p) % 64 ≡ p = omega arith in
      sym (xor_zero_r (bit_in env (64 * n + p)) ∙ ap (λ (t : ℕ). bit_at (get_or env t 0) ((64 * n + p) % 64)) q ∙ ap (bit_at (get_or env n 0)) r))
      (λ e. bit_at_above (get_or env n 0) 64 p (fits n) (ltb-false p 64 e))

  pub value_at : (w : Word) (p : ℕ) → bit_at (value env w) p ≡ total env (sources w p)
  unfolding value sources total
  value_at (Input n) p = input_at n p
  value_at (Right k w) p = ap (λ (t : ℕ). t % 2) (shr-shr (value env w) k p) ∙ value_at w (k + p)
  value_at (Left k w) p =
      by_test (λ (b : Bool). bit_at (value env w * 2 ^ k % 2 ^ 64) p ≡ total env (if b then (if nat_lt p k then [] else sources w (p - k)) else []))
      (nat_lt p 64)
      (λ e. left_below (value env w) k p (ltb-true p 64 e)
      ∙ by_test (λ (b : Bool). bit_at (value env w * 2 ^ k + 0) p ≡ total env (if b then [] else sources w (p - k)))
      (nat_lt p k)
      (λ f. bit_at_cat_low (value env w) k 0 p (ltb-true p k f) ∙ bit_at-zero p)
      (λ f. bit_at_cat_high (value env w) k 0 p (pow_pos k) (ltb-false p k f) ∙ value_at w (p - k)))
      (λ e. bit_at_above (value env w * 2 ^ k % 2 ^ 64) 64 p (omega arith) (ltb-false p 64 e))
  value_at (Masked m w) p =
      and_at (value env w) m p
      ∙ by_test (λ (b : Bool). bit_and (bit_at (value env w) p) (bit_at m p) ≡ total env (if b then sources w p else []))
      (nat_lt 0 (bit_at m p))
      (λ e.
      let one : bit_at m p ≡ 1 = omega (arith, ltb-true 0 (bit_at m p) e, bit_at-lt m p) in
      let low : bit_at (value env w) p % 2 ≡ bit_at (value env w) p = omega arith in
      ap (bit_and (bit_at (value env w) p)) one ∙ and_mask (bit_at (value env w) p) 1 ∙ low ∙ value_at w p)
      (λ e.
      let none : bit_at m p ≡ 0 = omega (arith, ltb-false 0 (bit_at m p) e) in
      ap (bit_and (bit_at (value env w) p)) none ∙ and_zero_r (bit_at (value env w) p))
  value_at (Sum a b) p =
      xor_at (value env a) (value env b) p
      ∙ ap (λ (t : ℕ). bit_xor t (bit_at (value env b) p)) (value_at a p)
      ∙ ap (bit_xor (total env (sources a p))) (value_at b p)
      ∙ sym (total-merged env (sources a p) (sources b p))

  pub value-lt : (w : Word) → value env w < 2 ^ 64
  unfolding value
  value-lt (Input n) = fits n
  value-lt (Right k w) = omega (arith, shr_le (value env w) k, value-lt w)
  value-lt (Left k w) = omega arith
  value-lt (Masked m w) = omega (arith, and_le_l (value env w) m, value-lt w)
  value-lt (Sum a b) = xor_lt 64 (value env a) (value env b) (value-lt a) (value-lt b)

  -- a word each of whose bits is a bit of the list
  pub taken_at : (w : Word) (f : ℕ → ℕ) → map (sources w) (range_with_len 0 64) ≡ map (λ (p : ℕ). f p ∷ []) (range_with_len 0 64) → (p : ℕ) → p < 64 → bit_at (value env w) p ≡ bit_in env (f p)
  unfolding total
  taken_at w f e p lt =
      value_at w p
      ∙ ap (total env)
      (sym (get_or-map-range_with_len (sources w) 0 64 p p [] lt (omega arith))
      ∙ ap (λ (t : List (List ℕ)). get_or t p []) e
      ∙ get_or-map-range_with_len (λ (p : ℕ). f p ∷ []) 0 64 p p [] lt (omega arith))
      ∙ xor_zero_r (bit_in env (f p))

-- a word each of whose bits is a bit of one word
pub turned_at : (x : ℕ) → x < 2 ^ 64 → (w : Word) (f : ℕ → ℕ) → map (sources w) (range_with_len 0 64) ≡ map (λ (p : ℕ). f p ∷ []) (range_with_len 0 64) → (p : ℕ) → p < 64 → f p < 64 → bit_at (value (x ∷ []) w) p ≡ bit_at x (f p)
turned_at x h w f e p lt in_range =
    let q : f p / 64 ≡ 0 = omega arith in
    let r : f p % 64 ≡ f p = omega arith in
    taken_at (x ∷ []) (fits x h) w f e p lt
    ∙ ap (λ (t : ℕ). bit_at (get_or (x ∷ []) t 0) (f p % 64)) q
    ∙ ap (bit_at x) r
  where
    fits : (x : ℕ) → x < 2 ^ 64 → (n : ℕ) → get_or (x ∷ []) n 0 < 2 ^ 64
    fits x h zero = h
    fits x h (suc n) = omega arith
