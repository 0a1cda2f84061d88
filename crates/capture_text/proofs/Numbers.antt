-- Decimal numbers as they are printed are read back.
use Rattle.std.proofs.Common.{◌≡◌, ℕ, zero, suc, ◌+◌, ◌/◌, ◌%◌, ◌^◌, ◌<◌, [], ◌∷◌, length, get_or, refl, Bool, true, false, ◌&&◌, nat_eq, nat_lt, arith, inl, inr, fold}
use Rattle.std.specs.List.{list_all}
use Rattle.std.specs.Fmt.{decimal}
use Rattle.std.proofs.lemmas.Bool.{cases_lt, ne_eqb}
use Rattle.std.proofs.lemmas.Bool.Decides.{nat_tests}
use Rattle.std.proofs.lemmas.Fmt.{decimal_step, decimal_digit, decimal_nonempty, first_decimal}
use Rattle.std.proofs.lemmas.List.Folds.{list_all-append}
use Rattle.std.proofs.lemmas.List.Sums.{fold-append}
use Rattle.script_text.specs.Numbers.{is_digit, is_number, has_leading_zero, value_of, with_digit}

value_below : (k n : ℕ) → n < k → n < 2 ^ 64 → fold with_digit 0 (decimal n) ≡ n
value_below zero n h fits = absurd (omega arith)
value_below (suc k) n h fits =
    elim (cases_lt n 10) [
      | inl small ↦ rw (decimal_digit n small) (omega arith)
      | inr big ↦
          let tenth : fold with_digit 0 (decimal (n / 10)) ≡ n / 10 = value_below k (n / 10) (omega arith) (omega arith) in
          rw (decimal_step n big fits, fold-append with_digit 0 (decimal (n / 10)) ((48 + n % 10) ∷ []), tenth) (omega arith)
    ]

-- the value of the digits of a number is the number
pub value_of-decimal : (n : ℕ) → n < 2 ^ 64 → value_of (decimal n) ≡ n
unfolding value_of
value_of-decimal n fits = value_below (suc n) n (omega arith) fits

all_below : (p : ℕ → Bool) → ((d : ℕ) → d < 10 → p (48 + d) ≡ true) → (k n : ℕ) → n < k → n < 2 ^ 64 → list_all p (decimal n) ≡ true
all_below p each zero n h fits = absurd (omega arith)
all_below p each (suc k) n h fits =
    elim (cases_lt n 10) [
      | inl small ↦ rw (decimal_digit n small, each n small) refl
      | inr big ↦
          let tenth : list_all p (decimal (n / 10)) ≡ true = all_below p each k (n / 10) (omega arith) (omega arith) in
          rw (decimal_step n big fits, list_all-append p (decimal (n / 10)) ((48 + n % 10) ∷ []), tenth, each (n % 10) (omega arith)) refl
    ]

-- what holds of each digit holds of all digits of a number
pub all_of_decimal : (p : ℕ → Bool) → ((d : ℕ) → d < 10 → p (48 + d) ≡ true) → (n : ℕ) → n < 2 ^ 64 → list_all p (decimal n) ≡ true
all_of_decimal p each n fits = all_below p each (suc n) n (omega arith) fits

no_zero : (n : ℕ) → 0 < n → n < 2 ^ 64 → has_leading_zero (decimal n) ≡ false
no_zero n some fits =
    let first : nat_eq (get_or (decimal n) 0 0) 48 ≡ false = ne_eqb _ _ (omega (arith, first_decimal n some fits)) in
    rw first (and_false (nat_lt 1 (length (decimal n))))
  where
    and_false : (b : Bool) → (b && false) ≡ false
    and_false true = refl
    and_false false = refl

-- the digits of a number are a number
pub is_number-decimal : (n : ℕ) → n < 2 ^ 64 → is_number (decimal n) ≡ true
unfolding is_number
is_number-decimal n fits =
    let some : nat_eq (length (decimal n)) 0 ≡ false = ne_eqb _ _ (omega (arith, decimal_nonempty n fits)) in
    let digits : list_all is_digit (decimal n) ≡ true = all_of_decimal is_digit (λ d h. grind (arith, nat_tests)) n fits in
    elim (cases_lt 0 n) [
      | inl positive ↦ rw (some, digits, no_zero n positive fits) refl
      | inr none ↦
          let e : n ≡ 0 = omega arith in
          rw (some, digits, e, decimal_digit 0 (omega arith)) refl
    ]
