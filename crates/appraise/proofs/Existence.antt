-- Some answer holds of any bytes.
use Rattle.std.proofs.Common.{◌≡◌, ◌<◌, ◌≤◌, ◌+◌, ◌*◌, ◌^◌, ◌/◌, ◌%◌, ◌⊎◌, ◌==◌, ◌&&◌, ◌++◌, ℕ, zero, suc, Bool, true, false, List, [], ◌∷◌, length, take, drop, Option, Some, None, nat_le, refl, sym, ap, ◌∙◌, inl, inr, arith, eqb-true, eq-eqb}
use Rattle.std.proofs.lemmas.Bool.{false≢true, cases_lt, and_parts}
use Rattle.std.proofs.lemmas.Bool.Decides.{nat_tests}
use Rattle.std.proofs.lemmas.List.{take-append-drop, length-append, length-take}
use Rattle.std.specs.List.{AllByRecursion}
use Rattle.std.specs.Prelude.{not}
use Rattle.script_text.specs.declared.texts.rule.Rule.{Rule}
use Rattle.measurements.specs.Blocks.{block_bytes}
use Rattle.appraise.specs.declared.appraisal.Appraisal.{Appraisal}
use Rattle.appraise.specs.declared.appraisal.Appraisal.TheVariants.{Trusted, Malformed, Missing}
use Rattle.appraise.specs.Records.{Measured, spec_of, IsBlock, BeginsWithBlock, bytes_of, has_block}
use Rattle.appraise.specs.Policies.{policy_fault}
use Rattle.appraise.specs.Answers.{is_missing, IsLeastMissing, IsTheAppraisal}
use Rattle.appraise.specs.Walk.{first_fault}
use Rattle.appraise.proofs.NoBlock.{expects_none}
use Rattle.appraise.proofs.OneAnswer.{IsDecided, the_appraisal}
use Rattle.appraise.proofs.OneReading.{nothing_begins, front_block}

-- ---- Whether bytes begin with a block.

-- the seven bytes before a value of n bytes, of which there are enough
fits : (s a b c d n left : ℕ) → Bool
fits s a b c d n left =
    s == 1 && (a == (3 + n) % 256 && (b == (3 + n) / 256 % 256 && (c == n % 256 && (d == n / 256 % 256 && (nat_le n left && nat_le (4 + n) 65536)))))

record Fits (s a b c d n left : ℕ) : Type 0 where
  spec : s ≡ 1
  size_low : a ≡ (3 + n) % 256
  size_high : b ≡ (3 + n) / 256 % 256
  low : c ≡ n % 256
  high : d ≡ n / 256 % 256
  within : n ≤ left
  few : 3 + n < 2 ^ 16

fits_parts : (s a b c d n left : ℕ) → fits s a b c d n left ≡ true → Fits s a b c d n left
unfolding fits
fits_parts s a b c d n left h =
    let p = and_parts (s == 1) (a == (3 + n) % 256 && (b == (3 + n) / 256 % 256 && (c == n % 256 && (d == n / 256 % 256 && (nat_le n left && nat_le (4 + n) 65536))))) h in
    let q = and_parts (a == (3 + n) % 256) (b == (3 + n) / 256 % 256 && (c == n % 256 && (d == n / 256 % 256 && (nat_le n left && nat_le (4 + n) 65536)))) p.1 in
    let r = and_parts (b == (3 + n) / 256 % 256) (c == n % 256 && (d == n / 256 % 256 && (nat_le n left && nat_le (4 + n) 65536))) q.1 in
    let t = and_parts (c == n % 256) (d == n / 256 % 256 && (nat_le n left && nat_le (4 + n) 65536)) r.1 in
    let u = and_parts (d == n / 256 % 256) (nat_le n left && nat_le (4 + n) 65536) t.1 in
    let v = and_parts (nat_le n left) (nat_le (4 + n) 65536) u.1 in
    record {
      spec = eqb-true s 1 p.0;
      size_low = eqb-true a ((3 + n) % 256) q.0;
      size_high = eqb-true b ((3 + n) / 256 % 256) r.0;
      low = eqb-true c (n % 256) t.0;
      high = eqb-true d (n / 256 % 256) u.0;
      within = at_most n left v.0;
      few = omega (arith, at_most (4 + n) 65536 v.1);
    }
  where
    at_most : (x y : ℕ) → nat_le x y ≡ true → x ≤ y
    at_most x y h = grind (arith, nat_tests)

fits_all : (s a b c d n left : ℕ) → Fits s a b c d n left → fits s a b c d n left ≡ true
unfolding fits
fits_all s a b c d n left f =
    both (s == 1) _ (eq-eqb s 1 f.spec) (both (a == (3 + n) % 256) _ (eq-eqb a ((3 + n) % 256) f.size_low)
    (both (b == (3 + n) / 256 % 256) _ (eq-eqb b ((3 + n) / 256 % 256) f.size_high) (both (c == n % 256) _ (eq-eqb c (n % 256) f.low)
    (both (d == n / 256 % 256) _ (eq-eqb d (n / 256 % 256) f.high) (both (nat_le n left) _ (is_at_most n left f.within) (is_at_most (4 + n) 65536 (omega (arith, f.few))))))))
  where
    both : (x y : Bool) → x ≡ true → y ≡ true → (x && y) ≡ true
    both x y g h = cc

    is_at_most : (x y : ℕ) → x ≤ y → nat_le x y ≡ true
    is_at_most x y h = grind (arith, nat_tests)

begin_with : (i s a b t c d : ℕ) (rest : List ℕ) → Fits s a b c d (c + 256 * d) (length rest) → BeginsWithBlock (i ∷ s ∷ a ∷ b ∷ t ∷ c ∷ d ∷ rest)
begin_with i s a b t c d rest f =
    let n : ℕ = c + 256 * d in
    let long : length (take n rest) ≡ n = omega (arith, length-take n rest, f.within) in (
      record { index = i; value_type = t; value = take n rest },
      drop n rest,
      (
        omega (arith, long, f.few),
        ap (λ (l : List ℕ). i ∷ s ∷ a ∷ b ∷ t ∷ c ∷ d ∷ l) (sym (take-append-drop n rest)) ∙ numbers i s a b t c d n (length (take n rest)) (take n rest ++ drop n rest) (sym long) f.spec f.size_low f.size_high f.low f.high,
      ),
    )
  where
    numbers : (i s a b t c d n long : ℕ) (l : List ℕ) → n ≡ long → s ≡ 1 → a ≡ (3 + n) % 256 → b ≡ (3 + n) / 256 % 256 → c ≡ n % 256 → d ≡ n / 256 % 256
        → i ∷ s ∷ a ∷ b ∷ t ∷ c ∷ d ∷ l ≡ i ∷ 1 ∷ (3 + long) % 256 ∷ (3 + long) / 256 % 256 ∷ t ∷ long % 256 ∷ long / 256 % 256 ∷ l
    numbers i s a b t c d n long l e g h j k m = cc

two_bytes : (n : ℕ) → n < 2 ^ 16 → n % 256 + 256 * (n / 256 % 256) ≡ n
two_bytes n h = omega (arith, h)

fit_of : (i s a b t c d : ℕ) (rest : List ℕ) → BeginsWithBlock (i ∷ s ∷ a ∷ b ∷ t ∷ c ∷ d ∷ rest) → Fits s a b c d (c + 256 * d) (length rest)
fit_of i s a b t c d rest found =
    let n : ℕ = length found.0.value in
    let few : 3 + n < 2 ^ 16 = found.2.0 in
    let e : i ∷ s ∷ a ∷ b ∷ t ∷ c ∷ d ∷ rest ≡ block_bytes (spec_of found.0) ++ found.1 = found.2.1 in
    let low : c ≡ n % 256 = cc in
    let high : d ≡ n / 256 % 256 = cc in
    let spec : s ≡ 1 = cc in
    let size_low : a ≡ (3 + n) % 256 = cc in
    let size_high : b ≡ (3 + n) / 256 % 256 = cc in
    let behind : rest ≡ found.0.value ++ found.1 = cc in
    let same : n ≡ c + 256 * d = sym (two_bytes n (omega (arith, few))) ∙ ap (λ (x : ℕ). x + 256 * (n / 256 % 256)) (sym low) ∙ ap (λ (y : ℕ). c + 256 * y) (sym high) in
    let bound : n ≤ length rest = omega (arith, ap length behind, length-append found.0.value found.1) in
    at_n s a b c d n (c + 256 * d) (length rest) same spec size_low size_high low high bound few
  where
    at_n : (s a b c d n m left : ℕ) → n ≡ m → s ≡ 1 → a ≡ (3 + n) % 256 → b ≡ (3 + n) / 256 % 256 → c ≡ n % 256 → d ≡ n / 256 % 256 → n ≤ left → 3 + n < 2 ^ 16
        → Fits s a b c d m left
    at_n s a b c d n m left e g h j k l o p = record {
      spec = g;
      size_low = h ∙ ap (λ (x : ℕ). (3 + x) % 256) e;
      size_high = j ∙ ap (λ (x : ℕ). (3 + x) / 256 % 256) e;
      low = k ∙ ap (λ (x : ℕ). x % 256) e;
      high = l ∙ ap (λ (x : ℕ). x / 256 % 256) e;
      within = omega (arith, e, o);
      few = omega (arith, e, p);
    }

by_test : (i s a b t c d : ℕ) (rest : List ℕ) (test : Bool) → fits s a b c d (c + 256 * d) (length rest) ≡ test
    → BeginsWithBlock (i ∷ s ∷ a ∷ b ∷ t ∷ c ∷ d ∷ rest) ⊎ (BeginsWithBlock (i ∷ s ∷ a ∷ b ∷ t ∷ c ∷ d ∷ rest) → ⊥)
by_test i s a b t c d rest true h = inl (begin_with i s a b t c d rest (fits_parts s a b c d (c + 256 * d) (length rest) h))
by_test i s a b t c d rest false h =
    inr (λ found. absurd (false≢true (sym h ∙ fits_all s a b c d (c + 256 * d) (length rest) (fit_of i s a b t c d rest found))))

pub too_short : (bytes : List ℕ) → length bytes < 7 → BeginsWithBlock bytes → ⊥
too_short bytes h found = absurd (omega (arith, h, ap length found.2.1))

begins_or_not : (bytes : List ℕ) → BeginsWithBlock bytes ⊎ (BeginsWithBlock bytes → ⊥)
begins_or_not (i ∷ s ∷ a ∷ b ∷ t ∷ c ∷ d ∷ rest) = by_test i s a b t c d rest (fits s a b c d (c + 256 * d) (length rest)) refl
begins_or_not [] = inr (too_short [] (omega arith))
begins_or_not (i ∷ []) = inr (too_short (i ∷ []) (omega arith))
begins_or_not (i ∷ s ∷ []) = inr (too_short (i ∷ s ∷ []) (omega arith))
begins_or_not (i ∷ s ∷ a ∷ []) = inr (too_short (i ∷ s ∷ a ∷ []) (omega arith))
begins_or_not (i ∷ s ∷ a ∷ b ∷ []) = inr (too_short (i ∷ s ∷ a ∷ b ∷ []) (omega arith))
begins_or_not (i ∷ s ∷ a ∷ b ∷ t ∷ []) = inr (too_short (i ∷ s ∷ a ∷ b ∷ t ∷ []) (omega arith))
begins_or_not (i ∷ s ∷ a ∷ b ∷ t ∷ c ∷ []) = inr (too_short (i ∷ s ∷ a ∷ b ∷ t ∷ c ∷ []) (omega arith))

-- ---- The blocks of any bytes.

record Parts (bytes : List ℕ) : Type 0 where
  blocks : List Measured
  rest : List ℕ
  are : AllByRecursion IsBlock blocks
  bytes_are : bytes ≡ bytes_of blocks ++ rest
  last : BeginsWithBlock rest → ⊥

none_in_front : (bytes : List ℕ) → (BeginsWithBlock bytes → ⊥) → Parts bytes
none_in_front bytes none = record { blocks = []; rest = bytes; are = tt; bytes_are = refl; last = none }

one_in_front : (bytes : List ℕ) (found : BeginsWithBlock bytes) → Parts found.1 → Parts bytes
one_in_front bytes found more = record {
  blocks = found.0 ∷ more.blocks;
  rest = more.rest;
  are = (found.2.0, more.are);
  bytes_are = found.2.1 ∙ ap (λ (l : List ℕ). block_bytes (spec_of found.0) ++ l) more.bytes_are ∙ sym (front_block found.0 more.blocks more.rest);
  last = more.last;
}

shorter : (bytes : List ℕ) (found : BeginsWithBlock bytes) (most : ℕ) → length bytes ≤ suc most → length found.1 ≤ most
shorter bytes found most h = omega (arith, h, ap length found.2.1, length-append found.0.value found.1)

parts_of : (most : ℕ) (bytes : List ℕ) → length bytes ≤ most → Parts bytes
parts_of zero [] h = none_in_front [] nothing_begins
parts_of zero (byte ∷ bytes) h = absurd (omega (arith, h))
parts_of (suc most) bytes h = elim (begins_or_not bytes) [
  | inl found ↦ one_in_front bytes found (parts_of most found.1 (shorter bytes found most h))
  | inr none ↦ none_in_front bytes none
]

-- ---- The least index that is missing.

below_next : (rules : List Rule) (blocks : List Measured) (n lower : ℕ) → ((i : ℕ) → i < n → is_missing rules blocks i ≡ false)
    → is_missing rules blocks n ≡ false → lower < suc n → is_missing rules blocks lower ≡ false
below_next rules blocks n lower below this h = elim (cases_lt lower n) [
  | inl less ↦ below lower less
  | inr not_less ↦ let e : lower ≡ n = omega (arith, h, not_less) in ap (λ (i : ℕ). is_missing rules blocks i) e ∙ this
]

search_next : (rules : List Rule) (blocks : List Measured) (n : ℕ) (test : Bool) → is_missing rules blocks n ≡ test → ((i : ℕ) → i < n → is_missing rules blocks i ≡ false)
    → ((i : ℕ) → i < suc n → is_missing rules blocks i ≡ false) ⊎ ((i : ℕ) × IsLeastMissing rules blocks i)
search_next rules blocks n true is below = inr (n, (is, below))
search_next rules blocks n false is below = inl (λ i h. below_next rules blocks n i below is h)

search_below : (rules : List Rule) (blocks : List Measured) (n : ℕ)
    → ((i : ℕ) → i < n → is_missing rules blocks i ≡ false) ⊎ ((i : ℕ) × IsLeastMissing rules blocks i)
search_below rules blocks zero = inl (λ i h. absurd (omega (arith, h)))
search_below rules blocks (suc n) = elim (search_below rules blocks n) [
  | inl below ↦ search_next rules blocks n (is_missing rules blocks n) refl below
  | inr found ↦ inr found
]

none_at_all : (rules : List Rule) (blocks : List Measured) → policy_fault rules ≡ None → ((i : ℕ) → i < 255 → is_missing rules blocks i ≡ false)
    → (i : ℕ) → is_missing rules blocks i ≡ false
none_at_all rules blocks fine below i = elim (cases_lt i 255) [
  | inl less ↦ below i less
  | inr more ↦ ap (λ (b : Bool). b && not (has_block i blocks)) (expects_none rules i fine (inr more))
]

-- ---- Some answer, and so the one.

some_decided : (rules : List Rule) (blocks : List Measured) (rest : List ℕ) (at : ℕ) (fault : Option Appraisal) → policy_fault rules ≡ None
    → (answer : Appraisal) × IsDecided rules blocks rest at fault answer
some_decided rules blocks (byte ∷ rest) at fault fine = (Malformed at, refl)
some_decided rules blocks [] at (Some fault) fine = (fault, refl)
some_decided rules blocks [] at None fine = elim (search_below rules blocks 255) [
  | inl below ↦ (Trusted, none_at_all rules blocks fine below)
  | inr found ↦ (Missing found.0, found.1)
]

pub one_answer : (rules : List Rule) → policy_fault rules ≡ None → (bytes : List ℕ) → (answer : Appraisal) × IsTheAppraisal rules bytes answer
one_answer rules fine bytes =
    let p = parts_of (length bytes) bytes (omega arith) in
    let some = some_decided rules p.blocks p.rest (length (bytes_of p.blocks)) (first_fault rules p.blocks) fine in
    (some.0, the_appraisal rules p.blocks bytes p.rest some.0 fine p.are p.bytes_are p.last some.1)
