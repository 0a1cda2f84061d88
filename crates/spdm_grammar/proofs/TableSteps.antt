-- Going over algorithm structures one by one.
use Rattle.std.proofs.Common.{◌≡◌, ℕ, suc, ◌+◌, ◌-◌, ◌*◌, ◌/◌, ◌%◌, ◌<◌, ◌≤◌, Bool, true, false, cond, eqb, ltb, List, ◌++◌, length, take, drop, Some, None, refl, sym, ap, subst, ◌∙◌, arith}
use Rattle.std.specs.Prelude.{◌↔◌, ◌||◌, not, slice_index}
use Rattle.std.proofs.lemmas.Bool.{ltb-false, le-ltb, eqb-true, eq-eqb}
use Rattle.std.proofs.lemmas.List.{drop_at, take-append-drop, length-append, length-take, get_or_append_left, get_or-take}
use Rattle.spdm_grammar.specs.Layout.{IsTable, AreTables}
use Rattle.spdm_grammar.specs.Tables.{first_table}

-- what a length of the first structure means
pub record IsFirst (bytes : List ℕ) (len : ℕ) : Type 0 where
  pub fixed_part : 4 ≤ length bytes
  pub fixed_count : slice_index bytes 1 / 16 ≡ 2
  pub entries : len ≡ 4 + 4 * (slice_index bytes 1 % 16)
  pub within : len ≤ length bytes

some_is : {A : Type 0} (b c : Bool) (x y : A) → cond b None (cond c None (Some x)) ≡ Some y → (b ≡ false) × (c ≡ false) × (x ≡ y)
some_is true c x y e = absurd cc
some_is false true x y e = absurd cc
some_is false false x y e = (refl, refl, cc)

neither : (b c : Bool) → (b || not c) ≡ false → (b ≡ false) × (c ≡ true)
neither true c e = absurd cc
neither false true e = (refl, refl)
neither false false e = absurd cc

pub first_is : (bytes : List ℕ) (len : ℕ) → first_table bytes ≡ Some len → IsFirst bytes len
first_is bytes len e =
    let t = some_is (ltb (length bytes) 4 || not (eqb (slice_index bytes 1 / 16) 2)) (ltb (length bytes) (4 + 4 * (slice_index bytes 1 % 16))) (4 + 4 * (slice_index bytes 1 % 16)) len e in
    let u = neither (ltb (length bytes) 4) (eqb (slice_index bytes 1 / 16) 2) t.0 in
    record {
      fixed_part = ltb-false _ _ u.0;
      fixed_count = eqb-true _ _ u.1;
      entries = sym t.2;
      within = omega (arith, ltb-false _ _ t.1, t.2);
    }

is_first : (bytes : List ℕ) (len : ℕ) → IsFirst bytes len → first_table bytes ≡ Some len
is_first bytes len f =
    let long : ltb (length bytes) 4 ≡ false = le-ltb _ _ f.fixed_part in
    let two : eqb (slice_index bytes 1 / 16) 2 ≡ true = eq-eqb _ _ f.fixed_count in
    let enough : ltb (length bytes) (4 + 4 * (slice_index bytes 1 % 16)) ≡ false = le-ltb _ _ (omega (arith, f.within, f.entries)) in
    rw (long, two, enough) (ap Some (sym f.entries))

-- a structure at the front of a list is the first
first_of : (table others : List ℕ) → IsTable table → IsFirst (table ++ others) (length table)
first_of table others t =
    let same : slice_index (table ++ others) 1 ≡ slice_index table 1 = get_or_append_left table others 0 1 (omega (arith, t.fixed_part)) in
    record {
      fixed_part = omega (arith, t.fixed_part, length-append table others);
      fixed_count = ap (λ (k : ℕ). k / 16) same ∙ t.fixed_count;
      entries = t.entries ∙ ap (λ (k : ℕ). 4 + 4 * (k % 16)) (sym same);
      within = omega (arith, length-append table others);
    }

table_of : (bytes : List ℕ) (len : ℕ) → IsFirst bytes len → IsTable (take len bytes)
table_of bytes len f =
    let same : slice_index (take len bytes) 1 ≡ slice_index bytes 1 = get_or-take len bytes 1 0 (omega (arith, f.entries)) in
    let long : length (take len bytes) ≡ len = omega (arith, length-take len bytes, f.within) in
    record {
      fixed_part = omega (arith, long, f.entries);
      fixed_count = ap (λ (k : ℕ). k / 16) same ∙ f.fixed_count;
      entries = long ∙ f.entries ∙ ap (λ (k : ℕ). 4 + 4 * (k % 16)) (sym same);
    }

-- one structure less
pub tables_next : (count : ℕ) (bytes : List ℕ) (len : ℕ) → first_table bytes ≡ Some len → AreTables (suc count) bytes ↔ AreTables count (drop len bytes)
tables_next count bytes len e =
    let f = first_is bytes len e in (
      λ s.
          let g : IsFirst bytes (length s.0) = subst (λ (b : List ℕ). IsFirst b (length s.0)) (sym s.2) (first_of s.0 s.1 s.3) in
          let same : len ≡ length s.0 = f.entries ∙ sym g.entries in
          let rest : drop len bytes ≡ s.1 = ap (λ (k : ℕ). drop k bytes) same ∙ ap (drop (length s.0)) s.2 ∙ drop_at s.0 s.1 (length s.0) refl in
          subst (AreTables count) (sym rest) s.4,
      λ r. (take len bytes, drop len bytes, sym (take-append-drop len bytes), table_of bytes len f, r),
    )

-- no structure stands there
pub tables_none : (count : ℕ) (bytes : List ℕ) → first_table bytes ≡ None → AreTables (suc count) bytes → ⊥
tables_none count bytes e s =
    let g : IsFirst bytes (length s.0) = subst (λ (b : List ℕ). IsFirst b (length s.0)) (sym s.2) (first_of s.0 s.1 s.3) in
    let k = sym e ∙ is_first bytes (length s.0) g in
    cc

pub tables_next_at : (n i : ℕ) (bytes : List ℕ) (len : ℕ) → i < n → first_table bytes ≡ Some len → AreTables (n - i) bytes ↔ AreTables (n - (i + 1)) (drop len bytes)
tables_next_at n i bytes len lt e =
    let k : n - i ≡ suc (n - (i + 1)) = omega arith in
    let both = tables_next (n - (i + 1)) bytes len e in
    (λ s. both.0 (subst (λ (j : ℕ). AreTables j bytes) k s), λ r. subst (λ (j : ℕ). AreTables j bytes) (sym k) (both.1 r))

pub tables_none_at : (n i : ℕ) (bytes : List ℕ) → i < n → first_table bytes ≡ None → AreTables (n - i) bytes → ⊥
tables_none_at n i bytes lt e s =
    let k : n - i ≡ suc (n - (i + 1)) = omega arith in
    tables_none (n - (i + 1)) bytes e (subst (λ (j : ℕ). AreTables j bytes) k s)
