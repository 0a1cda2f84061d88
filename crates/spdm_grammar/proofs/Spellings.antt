-- Reading answers a value exactly when it is encoded.
use Rattle.std.proofs.Common.{◌≡◌, ℕ, ◌+◌, true, false, eqb, ltb, List, [], length, Option, Some, None, Result, Ok, Err, sym, ap, subst, ◌∙◌}
use Rattle.std.proofs.lemmas.Bool.{ltb-false, le-ltb, eqb-true, eq-eqb}
use Rattle.std.proofs.lemmas.List.{nil_from_length}
use Rattle.std.specs.Prelude.{◌↔◌}
use Rattle.std.specs.Result.{result_ok}
use Rattle.byteorder.specs.Endian.{little_number}
use Rattle.spdm_grammar.specs.declared.messages.malformed.Malformed.{Malformed}
use Rattle.spdm_grammar.specs.declared.messages.malformed.Part.TheVariants.{Field, Length, Rest}
use Rattle.spdm_grammar.specs.Layout.{Layout, IsSpelling}
use Rattle.spdm_grammar.specs.Layout.Layout.{Whole, Sized, Number, Optional, Bytes, Tables, UpTo, Remaining}
use Rattle.spdm_grammar.specs.Reading.{front, Place, read, field_at, number_at, optional_at, tables_at, ended, all_up_to}
use Rattle.spdm_grammar.proofs.Steps.{then_ok, passed, avoided, ok_is, field_takes, field_again, number_takes, number_again, optional_none, optional_some, optional_none_again, optional_some_again, tables_take, tables_again}

ended_is : {A : Type 0} (value v : A) (p : Place) → ended value p ≡ Ok v → (v ≡ value) × (p.rest ≡ [])
ended_is value v p e =
    let t = passed (eqb (length p.rest) 0) (Ok value) (record { at = p.at; what = Rest }) v e in
    (sym (ok_is value v t.1), nil_from_length p.rest (eqb-true _ _ t.0))

-- what is read is encoded
pub read_spelling : {A : Type 0} (l : Layout A) (p : Place) (v : A) → read l p ≡ Ok v → IsSpelling l p.at v p.rest
read_spelling (Whole value) p v e = ended_is value v p e
read_spelling (Sized told told_at value) p v e =
    let t = passed (eqb told p.at) (ended value p) (record { at = told_at; what = Length }) v e in
    let w = ended_is value v p t.1 in
    (w.0, w.1, eqb-true _ _ t.0)
read_spelling {A} (Number width is_allowed next) p v e =
    let n = then_ok (number_at width p) _ v e in
    let t = passed (is_allowed n.0.0) (read (next n.0.0) n.0.1) (record { at = p.at; what = Field }) v n.2 in
    let f = number_takes width p n.0 n.1 in
    let more : IsSpelling (next n.0.0) n.0.1.at v n.0.1.rest = read_spelling (next n.0.0) n.0.1 v t.1 in
    let there : IsSpelling (next n.0.0) (p.at + width) v n.0.1.rest = subst (λ (k : ℕ). IsSpelling (next n.0.0) k v n.0.1.rest) f.1.at more in
    (f.0, n.0.1.rest, f.1.parts, f.1.long, ap is_allowed f.2 ∙ t.0, subst (λ (k : ℕ). IsSpelling (next k) (p.at + width) v n.0.1.rest) (sym f.2) there)
read_spelling (Optional false width next) p v e =
    let n = then_ok (optional_at false width p) _ v e in
    let same = optional_none width p n.0 n.1 in
    let back : read (next None) p ≡ Ok v = subst (λ (y : Option ℕ × Place). read (next y.0) y.1 ≡ Ok v) (sym same) n.2 in
    read_spelling (next None) p v back
read_spelling (Optional true width next) p v e =
    let n = then_ok (optional_at true width p) _ v e in
    let f = optional_some width p n.0 n.1 in
    let more : IsSpelling (next n.0.0) n.0.1.at v n.0.1.rest = read_spelling (next n.0.0) n.0.1 v n.2 in
    let there : IsSpelling (next n.0.0) (p.at + width) v n.0.1.rest = subst (λ (k : ℕ). IsSpelling (next n.0.0) k v n.0.1.rest) f.1.at more in
    (f.0, n.0.1.rest, f.1.parts, f.1.long, subst (λ (k : Option ℕ). IsSpelling (next k) (p.at + width) v n.0.1.rest) (sym f.2) there)
read_spelling (Bytes width next) p v e =
    let n = then_ok (field_at width p) _ v e in
    let f = field_takes width p n.0 n.1 in
    let more : IsSpelling (next n.0.0) n.0.1.at v n.0.1.rest = read_spelling (next n.0.0) n.0.1 v n.2 in
    (n.0.0, n.0.1.rest, f.parts, f.long, subst (λ (k : ℕ). IsSpelling (next n.0.0) k v n.0.1.rest) f.at more)
read_spelling (Tables count next) p v e =
    let n = then_ok (tables_at count p) _ v e in
    let f = tables_take count p n.0 n.1 in
    let more : IsSpelling (next n.0.0) n.0.1.at v n.0.1.rest = read_spelling (next n.0.0) n.0.1 v n.2 in
    (n.0.0, n.0.1.rest, f.0.parts, f.1, subst (λ (k : ℕ). IsSpelling (next n.0.0) k v n.0.1.rest) f.0.at more)
read_spelling (UpTo most value) p v e =
    let n = then_ok (all_up_to most p) _ v e in
    let t = avoided (ltb most (length p.rest)) (Ok p.rest) (record { at = p.at + most; what = Rest }) n.0 n.1 in
    (sym (ok_is (value n.0) v n.2) ∙ ap value (sym (ok_is p.rest n.0 t.1)), ltb-false _ _ t.0)
read_spelling (Remaining value) p v e = sym (ok_is (value p.rest) v e)

-- what is encoded is read
pub spelling_read : {A : Type 0} (l : Layout A) (at : ℕ) (v : A) (bytes : List ℕ) → IsSpelling l at v bytes → read l (record { rest = bytes; at = at }) ≡ Ok v
spelling_read (Whole value) at v bytes s = rw s.1 (ap Ok (sym s.0))
spelling_read (Sized told told_at value) at v bytes s =
    let t : eqb told at ≡ true = eq-eqb _ _ s.2 in
    rw (s.1, t) (ap Ok (sym s.0))
spelling_read (Number width is_allowed next) at v bytes s =
    rw (number_again width at bytes s.0 s.1 s.2 s.3, s.4) (spelling_read (next (little_number width s.0)) (at + width) v s.1 s.5)
spelling_read (Optional false width next) at v bytes s =
    rw (optional_none_again width (record { rest = bytes; at = at })) (spelling_read (next None) at v bytes s)
spelling_read (Optional true width next) at v bytes s =
    rw (optional_some_again width at bytes s.0 s.1 s.2 s.3) (spelling_read (next (Some (little_number width s.0))) (at + width) v s.1 s.4)
spelling_read (Bytes width next) at v bytes s =
    rw (field_again width at bytes s.0 s.1 s.2 s.3) (spelling_read (next s.0) (at + width) v s.1 s.4)
spelling_read (Tables count next) at v bytes s =
    rw (tables_again count at bytes s.0 s.1 s.2 s.3) (spelling_read (next s.0) (at + length s.0) v s.1 s.4)
spelling_read (UpTo most value) at v bytes s =
    let t : ltb most (length bytes) ≡ false = le-ltb _ _ s.1 in
    rw t (ap Ok (sym s.0))
spelling_read (Remaining value) at v bytes s = ap Ok (sym s)

some_ok : {A : Type 0} (r : Result A Malformed) (v : A) → result_ok r ≡ Some v → r ≡ Ok v
some_ok (Ok x) v e = cc
some_ok (Err d) v e = absurd cc

pub read_iff : {A : Type 0} (l : Layout A) (v : A) (bytes : List ℕ) → (result_ok (read l (front bytes)) ≡ Some v) ↔ IsSpelling l 0 v bytes
read_iff l v bytes =
    (λ e. read_spelling l (front bytes) v (some_ok (read l (front bytes)) v e), λ s. ap result_ok (spelling_read l 0 v bytes s))

pub one_value : {A : Type 0} (l : Layout A) (v w : A) (bytes : List ℕ) → IsSpelling l 0 v bytes → IsSpelling l 0 w bytes → v ≡ w
one_value l v w bytes s t = ok_is v w (sym (spelling_read l 0 v bytes s) ∙ spelling_read l 0 w bytes t)
