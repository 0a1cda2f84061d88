-- What bytes encode fits its fields and is sound.
use Rattle.std.proofs.Common.{◌≡◌, ℕ, zero, suc, ◌+◌, ◌*◌, ◌^◌, ◌<◌, ◌≤◌, ◌⊎◌, Bool, true, false, cond, List, ◌++◌, length, Option, Some, None, refl, sym, ap, subst, ◌∙◌, arith, inl, inr, add-one}
use Rattle.std.specs.Prelude.{slice_index, ◌||◌}
use Rattle.std.proofs.lemmas.Bool.{cases_lt}
use Rattle.std.proofs.lemmas.List.{get_or_append_left, get_or-append-add, get_or_past}
use Rattle.std.proofs.lemmas.Grind.{pow_more}
use Rattle.byteorder.specs.Endian.{little_number, little_from}
use Rattle.spdm_grammar.specs.Layout.{Layout, IsSpelling, AreTables}
use Rattle.spdm_grammar.specs.Layout.Layout.{Whole, Sized, Number, Optional, Bytes, Tables, UpTo, Remaining}

-- ---- bytes

abbrev pub AreBytes : List ℕ → Type 0
AreBytes bytes = (i : ℕ) → slice_index bytes i < 256

front_bytes : (a b : List ℕ) → AreBytes (a ++ b) → AreBytes a
front_bytes a b h i = elim (cases_lt i (length a)) [
  | inl lt ↦ let e = get_or_append_left a b 0 i lt in omega (arith, e, h i)
  | inr le ↦ let e = get_or_past a i 0 le in omega (arith, e)
]

back_bytes : (a b : List ℕ) → AreBytes (a ++ b) → AreBytes b
back_bytes a b h i = let e = get_or-append-add a b i 0 in omega (arith, e, h (length a + i))

little_from_fits : (n i : ℕ) (bytes : List ℕ) → AreBytes bytes → little_from i n bytes < 256 ^ n
little_from_fits zero i bytes h = omega arith
little_from_fits (suc n) i bytes h =
    let more = little_from_fits n (suc i) bytes h in
    let power : 256 ^ (suc n) ≡ 256 ^ n * 256 = ap (λ (k : ℕ). 256 ^ k) (sym (add-one n)) ∙ pow_more 256 n in
    omega (arith, h i, more, power)

-- ---- the values of a layout

abbrev pub Values : {A : Type 0} → (A → Type 0) → Layout A → ℕ → Type 0
Values P (Whole value) at = P value
Values P (Sized told told_at value) at = told ≡ at → P value
Values P (Number width is_allowed next) at = (n : ℕ) → n < 256 ^ width → is_allowed n ≡ true → Values P (next n) (at + width)
Values P (Optional false width next) at = Values P (next None) at
Values P (Optional true width next) at = (n : ℕ) → n < 256 ^ width → Values P (next (Some n)) (at + width)
Values P (Bytes width next) at = (field : List ℕ) → length field ≡ width → Values P (next field) (at + width)
Values P (Tables count next) at = (field : List ℕ) → AreTables count field → Values P (next field) (at + length field)
Values P (UpTo most value) at = (field : List ℕ) → length field ≤ most → P (value field)
Values P (Remaining value) at = (field : List ℕ) → P (value field)

fits_in : (width : ℕ) (bytes field others : List ℕ) → bytes ≡ field ++ others → AreBytes bytes → little_number width field < 256 ^ width
fits_in width bytes field others parts h = little_from_fits width 0 field (front_bytes field others (subst AreBytes parts h))

rest_of : (bytes field others : List ℕ) → bytes ≡ field ++ others → AreBytes bytes → AreBytes others
rest_of bytes field others parts h = back_bytes field others (subst AreBytes parts h)

pub value_of : {A : Type 0} (P : A → Type 0) (l : Layout A) (at : ℕ) (v : A) (bytes : List ℕ) → Values P l at → AreBytes bytes → IsSpelling l at v bytes → P v
value_of P (Whole value) at v bytes all h s = subst P (sym s.0) all
value_of P (Sized told told_at value) at v bytes all h s = subst P (sym s.0) (all s.2)
value_of P (Number width is_allowed next) at v bytes all h s =
    value_of P (next (little_number width s.0)) (at + width) v s.1 (all (little_number width s.0) (fits_in width bytes s.0 s.1 s.2 h) s.4) (rest_of bytes s.0 s.1 s.2 h) s.5
value_of P (Optional false width next) at v bytes all h s = value_of P (next None) at v bytes all h s
value_of P (Optional true width next) at v bytes all h s =
    value_of P (next (Some (little_number width s.0))) (at + width) v s.1 (all (little_number width s.0) (fits_in width bytes s.0 s.1 s.2 h)) (rest_of bytes s.0 s.1 s.2 h) s.4
value_of P (Bytes width next) at v bytes all h s =
    value_of P (next s.0) (at + width) v s.1 (all s.0 s.3) (rest_of bytes s.0 s.1 s.2 h) s.4
value_of P (Tables count next) at v bytes all h s =
    value_of P (next s.0) (at + length s.0) v s.1 (all s.0 s.3) (rest_of bytes s.0 s.1 s.2 h) s.4
value_of P (UpTo most value) at v bytes all h s = subst P (sym s.0) (all bytes s.1)
value_of P (Remaining value) at v bytes all h s = subst P (sym s) (all bytes)

pub record HasValues {A : Type 0} (P : A → Type 0) (l : Layout A) (at : ℕ) : Type 0 where
  pub are : Values P l at

pub either_values : {A : Type 0} {P : A → Type 0} {at : ℕ} (b : Bool) {l m : Layout A} → HasValues P l at → HasValues P m at → HasValues P (cond b l m) at
either_values true x y = x
either_values false x y = y

-- the same where each side knows how the test went
pub tested_values : {A : Type 0} {P : A → Type 0} {at : ℕ} (b : Bool) (l m : Layout A) → (b ≡ true → HasValues P l at) → (b ≡ false → HasValues P m at) → HasValues P (cond b l m) at
tested_values true l m x y = x refl
tested_values false l m x y = y refl

pub optional_values : {A : Type 0} (P : A → Type 0) (b : Bool) (at : ℕ) (next : Option ℕ → Layout A) → (b ≡ false → Values P (next None) at) → (b ≡ true → (n : ℕ) → n < 256 ^ 4 → Values P (next (Some n)) (at + 4)) → Values P (Optional b 4 next) at
optional_values P true at next x y = y refl
optional_values P false at next x y = x refl

pub one_of : (a b : Bool) → (a || b) ≡ true → (a ≡ true) ⊎ (b ≡ true)
one_of true b e = inl refl
one_of false b e = inr e
