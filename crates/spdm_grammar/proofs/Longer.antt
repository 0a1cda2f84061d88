-- Reading an input that goes on: what was read is read again, and a fault other than End stays.
use Rattle.std.proofs.Common.{◌≡◌, ◌≢◌, ℕ, zero, suc, ◌+◌, ◌*◌, ◌/◌, ◌%◌, Bool, true, false, eqb, ltb, List, ◌++◌, length, Option, Some, Result, Ok, Err, refl, sym, ap, ◌∙◌, append_assoc, arith, inl, inr}
use Rattle.std.proofs.lemmas.Bool.{ltb-true, lt-ltb, eqb-false, ne_eqb}
use Rattle.std.proofs.lemmas.List.{length-append}
use Rattle.std.specs.Result.{result_err}
use Rattle.byteorder.specs.Endian.{little_number}
use Rattle.spdm_grammar.specs.declared.messages.malformed.Malformed.{Malformed}
use Rattle.spdm_grammar.specs.declared.messages.malformed.Part.TheVariants.{End, Field, Length, Rest}
use Rattle.spdm_grammar.specs.Layout.{Layout}
use Rattle.spdm_grammar.specs.Layout.Layout.{Whole, Sized, Number, Optional, Bytes, Tables, UpTo, Remaining}
use Rattle.spdm_grammar.specs.Reading.{front, Place, read, field_at, number_at, optional_at, behind_table, behind_tables, tables_at, ended, all_up_to}
use Rattle.spdm_grammar.proofs.Steps.{then_err, passed_err, avoided_err, field_takes, field_again, number_takes, number_again, optional_none, optional_some, optional_none_again, optional_some_again, table_takes, table_again, tables_take, tables_again}

-- the place in an input that has more after it
abbrev pub longer : Place → List ℕ → Place
longer p more = record { rest = p.rest ++ more; at = p.at }

-- ---- one step

behind_parts : (p q : Place) (field more : List ℕ) → p.rest ≡ field ++ q.rest → p.rest ++ more ≡ field ++ (q.rest ++ more)
behind_parts p q field more parts = ap (λ (x : List ℕ). x ++ more) parts ∙ append_assoc field q.rest more

abbrev reached : {X : Type 0} → X → Place → Result (X × Place) Malformed
reached x p = Ok (x, p)

abbrev arrived : Place → Result Place Malformed
arrived p = Ok p

at_is : {X : Type 0} (x : X) (p q : Place) (more : List ℕ) (k : ℕ) → q.at ≡ k → reached x (record { rest = q.rest ++ more; at = k }) ≡ reached x (longer q more)
at_is x p q more k e = ap (λ (j : ℕ). reached x (record { rest = q.rest ++ more; at = j })) (sym e)

pub field_longer : (width : ℕ) (p : Place) (x : List ℕ × Place) (more : List ℕ) → field_at width p ≡ Ok x → field_at width (longer p more) ≡ Ok (x.0, longer x.1 more)
field_longer width p x more e =
    let t = field_takes width p x e in
    field_again width p.at (p.rest ++ more) x.0 (x.1.rest ++ more) (behind_parts p x.1 x.0 more t.parts) t.long ∙ at_is x.0 p x.1 more (p.at + width) t.at

pub field_ends : (width : ℕ) (p : Place) (e : Malformed) → field_at width p ≡ Err e → e.what ≡ End
unfolding field_at
field_ends width p e h =
    elim (avoided_err (ltb (length p.rest) width) _ (record { at = p.at + length p.rest; what = End }) e h) [
      | inl t ↦ sym (ap (λ (d : Malformed). d.what) t.1)
      | inr t ↦ absurd (let k = t.1 in cc)
    ]

pub number_longer : (width : ℕ) (p : Place) (n : ℕ × Place) (more : List ℕ) → number_at width p ≡ Ok n → number_at width (longer p more) ≡ Ok (n.0, longer n.1 more)
number_longer width p n more e =
    let t = number_takes width p n e in
    let named : ℕ → Result (ℕ × Place) Malformed = λ k. Ok (k, longer n.1 more) in
    number_again width p.at (p.rest ++ more) t.0 (n.1.rest ++ more) (behind_parts p n.1 t.0 more t.1.parts) t.1.long ∙ at_is (little_number width t.0) p n.1 more (p.at + width) t.1.at ∙ ap named t.2

pub number_ends : (width : ℕ) (p : Place) (e : Malformed) → number_at width p ≡ Err e → e.what ≡ End
unfolding number_at
number_ends width p e h =
    elim (then_err (field_at width p) _ e h) [
      | inl t ↦ field_ends width p e t
      | inr t ↦ absurd (let k = t.2 in cc)
    ]

pub optional_longer : (is_there : Bool) (width : ℕ) (p : Place) (n : Option ℕ × Place) (more : List ℕ) → optional_at is_there width p ≡ Ok n → optional_at is_there width (longer p more) ≡ Ok (n.0, longer n.1 more)
optional_longer false width p n more e =
    let same = optional_none width p n e in
    let named : Option ℕ × Place → Result (Option ℕ × Place) Malformed = λ y. Ok (y.0, longer y.1 more) in
    optional_none_again width (longer p more) ∙ ap named same
optional_longer true width p n more e =
    let t = optional_some width p n e in
    let named : Option ℕ → Result (Option ℕ × Place) Malformed = λ k. Ok (k, longer n.1 more) in
    optional_some_again width p.at (p.rest ++ more) t.0 (n.1.rest ++ more) (behind_parts p n.1 t.0 more t.1.parts) t.1.long ∙ at_is (Some (little_number width t.0)) p n.1 more (p.at + width) t.1.at ∙ ap named t.2

pub optional_ends : (is_there : Bool) (width : ℕ) (p : Place) (e : Malformed) → optional_at is_there width p ≡ Err e → e.what ≡ End
unfolding optional_at
optional_ends false width p e h = absurd cc
optional_ends true width p e h =
    elim (then_err (number_at width p) _ e h) [
      | inl t ↦ number_ends width p e t
      | inr t ↦ absurd (let k = t.2 in cc)
    ]

-- ---- algorithm structures

place_is : (q : Place) (more : List ℕ) (k : ℕ) → q.at ≡ k → arrived (record { rest = q.rest ++ more; at = k }) ≡ arrived (longer q more)
place_is q more k e = ap (λ (j : ℕ). arrived (record { rest = q.rest ++ more; at = j })) (sym e)

table_longer : (p q : Place) (more : List ℕ) → behind_table p ≡ Ok q → behind_table (longer p more) ≡ Ok (longer q more)
table_longer p q more e =
    let t = table_takes p q e in
    rw (behind_parts p q t.0 more t.1.parts) (table_again p.at t.0 (q.rest ++ more) t.2 ∙ place_is q more (p.at + length t.0) t.1.at)

table_stays : (p : Place) (more : List ℕ) (e : Malformed) → behind_table p ≡ Err e → e.what ≢ End → behind_table (longer p more) ≡ Err e
unfolding behind_table
table_stays p more e h other =
    elim (then_err (field_at 1 p) _ e h) [
      | inl t ↦ absurd (other (field_ends 1 p e t))
      | inr kind ↦ elim (then_err (number_at 1 kind.0.1) _ e kind.2) [
        | inl t ↦ absurd (other (number_ends 1 kind.0.1 e t))
        | inr count ↦ elim (passed_err (eqb (count.0.0 / 16) 2) _ (record { at = kind.0.1.at; what = Field }) e count.2) [
          | inl t ↦ rw (field_longer 1 p kind.0 more kind.1, number_longer 1 kind.0.1 count.0 more count.1, t.0) (ap Err t.1)
          | inr t ↦ elim (then_err (field_at (2 + 4 * (count.0.0 % 16)) count.0.1) _ e t.1) [
            | inl u ↦ absurd (other (field_ends _ count.0.1 e u))
            | inr u ↦ absurd (let k = u.2 in cc)
          ]
        ]
      ]
    ]

tables_behind_stay : (count : ℕ) (p : Place) (more : List ℕ) (e : Malformed) → behind_tables count p ≡ Err e → e.what ≢ End → behind_tables count (longer p more) ≡ Err e
unfolding behind_tables
tables_behind_stay zero p more e h other = absurd cc
tables_behind_stay (suc count) p more e h other =
    elim (then_err (behind_table p) _ e h) [
      | inl t ↦ rw (table_stays p more e t other) refl
      | inr t ↦ rw (table_longer p t.0 more t.1) (tables_behind_stay count t.0 more e t.2 other)
    ]

pub tables_longer : (count : ℕ) (p : Place) (x : List ℕ × Place) (more : List ℕ) → tables_at count p ≡ Ok x → tables_at count (longer p more) ≡ Ok (x.0, longer x.1 more)
tables_longer count p x more e =
    let t = tables_take count p x e in
    tables_again count p.at (p.rest ++ more) x.0 (x.1.rest ++ more) (behind_parts p x.1 x.0 more t.0.parts) t.1 ∙ at_is x.0 p x.1 more (p.at + length x.0) t.0.at

pub tables_stay : (count : ℕ) (p : Place) (more : List ℕ) (e : Malformed) → tables_at count p ≡ Err e → e.what ≢ End → tables_at count (longer p more) ≡ Err e
unfolding tables_at
tables_stay count p more e h other =
    elim (then_err (behind_tables count p) _ e h) [
      | inl t ↦ rw (tables_behind_stay count p more e t other) refl
      | inr t ↦ absurd (let k = t.2 in cc)
    ]

-- ---- a whole message

ended_stays : {A : Type 0} (value : A) (p : Place) (more : List ℕ) (e : Malformed) → ended value p ≡ Err e → ended value (longer p more) ≡ Err e
ended_stays value p more e h =
    elim (passed_err (eqb (length p.rest) 0) (Ok value) (record { at = p.at; what = Rest }) e h) [
      | inl t ↦
          let some : eqb (length (p.rest ++ more)) 0 ≡ false = ne_eqb _ _ (λ z. eqb-false _ _ t.0 (omega (arith, length-append p.rest more))) in
          rw some (ap Err t.1)
      | inr t ↦ absurd (let k = t.1 in cc)
    ]

-- a fault other than End stays
pub fault_stays : {A : Type 0} (l : Layout A) (p : Place) (more : List ℕ) (e : Malformed) → read l p ≡ Err e → e.what ≢ End → read l (longer p more) ≡ Err e
fault_stays (Whole value) p more e h other = ended_stays value p more e h
fault_stays (Sized told told_at value) p more e h other =
    elim (passed_err (eqb told p.at) (ended value p) (record { at = told_at; what = Length }) e h) [
      | inl t ↦ rw t.0 (ap Err t.1)
      | inr t ↦ rw t.0 (ended_stays value p more e t.1)
    ]
fault_stays (Number width is_allowed next) p more e h other =
    elim (then_err (number_at width p) _ e h) [
      | inl t ↦ absurd (other (number_ends width p e t))
      | inr n ↦ elim (passed_err (is_allowed n.0.0) (read (next n.0.0) n.0.1) (record { at = p.at; what = Field }) e n.2) [
        | inl t ↦ rw (number_longer width p n.0 more n.1, t.0) (ap Err t.1)
        | inr t ↦ rw (number_longer width p n.0 more n.1, t.0) (fault_stays (next n.0.0) n.0.1 more e t.1 other)
      ]
    ]
fault_stays (Optional is_there width next) p more e h other =
    elim (then_err (optional_at is_there width p) _ e h) [
      | inl t ↦ absurd (other (optional_ends is_there width p e t))
      | inr n ↦ rw (optional_longer is_there width p n.0 more n.1) (fault_stays (next n.0.0) n.0.1 more e n.2 other)
    ]
fault_stays (Bytes width next) p more e h other =
    elim (then_err (field_at width p) _ e h) [
      | inl t ↦ absurd (other (field_ends width p e t))
      | inr n ↦ rw (field_longer width p n.0 more n.1) (fault_stays (next n.0.0) n.0.1 more e n.2 other)
    ]
fault_stays (Tables count next) p more e h other =
    elim (then_err (tables_at count p) _ e h) [
      | inl t ↦ rw (tables_stay count p more e t other) refl
      | inr n ↦ rw (tables_longer count p n.0 more n.1) (fault_stays (next n.0.0) n.0.1 more e n.2 other)
    ]
fault_stays (UpTo most value) p more e h other =
    elim (then_err (all_up_to most p) _ e h) [
      | inl t ↦ elim (avoided_err (ltb most (length p.rest)) (Ok p.rest) (record { at = p.at + most; what = Rest }) e t) [
        | inl u ↦
            let over : ltb most (length (p.rest ++ more)) ≡ true = lt-ltb _ _ (omega (arith, ltb-true _ _ u.0, length-append p.rest more)) in
            rw over (ap Err u.1)
        | inr u ↦ absurd (let k = u.1 in cc)
      ]
      | inr t ↦ absurd (let k = t.2 in cc)
    ]
fault_stays (Remaining value) p more e h other = absurd cc

some_err : {A : Type 0} (r : Result A Malformed) (e : Malformed) → result_err r ≡ Some e → r ≡ Err e
some_err (Ok x) e h = absurd cc
some_err (Err d) e h = cc

pub fault_stays_whole : {A : Type 0} (l : Layout A) (bytes more : List ℕ) (e : Malformed) → result_err (read l (front bytes)) ≡ Some e → e.what ≢ End → result_err (read l (front (bytes ++ more))) ≡ Some e
fault_stays_whole l bytes more e h other = ap result_err (fault_stays l (front bytes) more e (some_err (read l (front bytes)) e h) other)
