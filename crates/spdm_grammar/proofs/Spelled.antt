-- An encoding, put together field by field.
use Rattle.std.proofs.Common.{◌≡◌, ℕ, ◌+◌, ◌%◌, ◌^◌, ◌<◌, Bool, true, false, cond, eqb, List, [], ◌∷◌, ◌++◌, length, Option, Some, None, refl, sym, ap, subst, ◌∙◌, arith}
use Rattle.std.specs.Prelude.{IfSome, is_some, ◌&&◌}
use Rattle.byteorder.specs.Endian.{little_number, little_bytes}
use Rattle.spdm_grammar.specs.Layout.{Layout, IsSpelling, AreTables}
use Rattle.spdm_grammar.specs.Layout.Layout.{Whole, Number, Optional, Bytes, Tables}
use Rattle.spdm_grammar.specs.Fields.{large_bytes}

pub record Spelled {A : Type 0} (l : Layout A) (at : ℕ) (v : A) (bytes : List ℕ) : Type 0 where
  pub is : IsSpelling l at v bytes

pub whole : {A : Type 0} {at : ℕ} (value v : A) → v ≡ value → Spelled (Whole value) at v []
whole value v e = record { is = (e, refl) }

pub number : {A : Type 0} {width at : ℕ} {is_allowed : ℕ → Bool} {next : ℕ → Layout A} {v : A} (n : ℕ) (field others : List ℕ) →
    length field ≡ width → little_number width field ≡ n → is_allowed n ≡ true → Spelled (next n) (at + width) v others → Spelled (Number width is_allowed next) at v (field ++ others)
number {A} {width} {at} {is_allowed} {next} {v} n field others long value ok more = record {
  is = (field, others, refl, long, ap is_allowed value ∙ ok, subst (λ (k : ℕ). IsSpelling (next k) (at + width) v others) (sym value) more.is);
}

pub one : {A : Type 0} {at : ℕ} {is_allowed : ℕ → Bool} {next : ℕ → Layout A} {v : A} {others : List ℕ} (n : ℕ) →
    is_allowed n ≡ true → Spelled (next n) (at + 1) v others → Spelled (Number 1 is_allowed next) at v (n ∷ others)
one {others = others} n ok more = number n (n ∷ []) others refl (omega arith) ok more

pub two : {A : Type 0} {at : ℕ} {is_allowed : ℕ → Bool} {next : ℕ → Layout A} {v : A} {others : List ℕ} (n : ℕ) → n < 2 ^ 16 →
    is_allowed n ≡ true → Spelled (next n) (at + 2) v others → Spelled (Number 2 is_allowed next) at v (little_bytes 2 n ++ others)
two {others = others} n few ok more = number n (little_bytes 2 n) others refl (omega arith) ok more

pub three : {A : Type 0} {at : ℕ} {is_allowed : ℕ → Bool} {next : ℕ → Layout A} {v : A} {others : List ℕ} (n : ℕ) → n < 2 ^ 24 →
    is_allowed n ≡ true → Spelled (next n) (at + 3) v others → Spelled (Number 3 is_allowed next) at v (little_bytes 3 n ++ others)
three {others = others} n few ok more = number n (little_bytes 3 n) others refl (omega arith) ok more

pub four : {A : Type 0} {at : ℕ} {is_allowed : ℕ → Bool} {next : ℕ → Layout A} {v : A} {others : List ℕ} (n : ℕ) → n < 2 ^ 32 →
    is_allowed n ≡ true → Spelled (next n) (at + 4) v others → Spelled (Number 4 is_allowed next) at v (little_bytes 4 n ++ others)
four {others = others} n few ok more = number n (little_bytes 4 n) others refl (omega arith) ok more

-- so many bytes, before others
pub bytes : {A : Type 0} {width at : ℕ} {next : List ℕ → Layout A} {v : A} {whole : List ℕ} (field others : List ℕ) →
    whole ≡ field ++ others → length field ≡ width → Spelled (next field) (at + width) v others → Spelled (Bytes width next) at v whole
bytes field others parts long more = record { is = (field, others, parts, long, more.is) }

pub tables : {A : Type 0} {count at : ℕ} {next : List ℕ → Layout A} {v : A} {whole : List ℕ} (field others : List ℕ) →
    whole ≡ field ++ others → AreTables count field → Spelled (next field) (at + length field) v others → Spelled (Tables count next) at v whole
tables field others parts are more = record { is = (field, others, parts, are, more.is) }

pub optional : {A : Type 0} {is_there : Bool} {at : ℕ} {next : Option ℕ → Layout A} {v : A} {others : List ℕ} (n : Option ℕ) →
    is_some n ≡ is_there → IfSome n (λ k. k < 2 ^ 32) → ((k : ℕ) → Spelled (next n) k v others) → Spelled (Optional is_there 4 next) at v (large_bytes n ++ others)
optional {is_there = true} None there few more = absurd cc
optional {is_there = false} {at} None there few more = record { is = (more at).is }
optional {is_there = true} {at} {next} {v} {others} (Some n) there few more =
    let back : little_number 4 (little_bytes 4 n) ≡ n = omega arith in
    record { is = (little_bytes 4 n, others, refl, refl, subst (λ (k : ℕ). IsSpelling (next (Some k)) (at + 4) v others) (sym back) (more (at + 4)).is) }
optional {is_there = false} (Some n) there few more = absurd cc

pub either : {A : Type 0} {at : ℕ} {v : A} {whole : List ℕ} (b : Bool) (l m : Layout A) → (b ≡ true → Spelled l at v whole) → (b ≡ false → Spelled m at v whole) → Spelled (cond b l m) at v whole
either true l m on_true on_false = on_true refl
either false l m on_true on_false = on_false refl

-- a mark that was written as a bit
pub mark_back : (b : Bool) → b ≡ eqb (cond b 1 0 % 2) 1
mark_back true = refl
mark_back false = refl

pub both : {a b : Bool} → a ≡ true → b ≡ true → (a && b) ≡ true
both {a = true} p q = q
both {a = false} p q = absurd cc
