-- What one step of reading takes from the input, and what it does with a longer input.
use Rattle.std.proofs.Common.{◌≡◌, ℕ, zero, suc, ◌+◌, ◌-◌, ◌*◌, ◌/◌, ◌%◌, ◌≤◌, ◌⊎◌, Bool, true, false, cond, eqb, ltb, List, [], ◌∷◌, ◌++◌, length, take, drop, Option, Some, None, Result, Ok, Err, refl, sym, ap, subst, ◌∙◌, append_assoc, arith, inl, inr}
use Rattle.std.proofs.lemmas.Bool.{ltb-false, le-ltb, eqb-true, eq-eqb}
use Rattle.std.proofs.lemmas.List.{take_at, drop_at, take-append-drop, length-append, length-take}
use Rattle.byteorder.specs.Endian.{little_number}
use Rattle.spdm_grammar.specs.Layout.{IsTable, AreTables}
use Rattle.spdm_grammar.specs.declared.messages.malformed.Malformed.{Malformed}
use Rattle.spdm_grammar.specs.declared.messages.malformed.Part.TheVariants.{End, Field}
use Rattle.spdm_grammar.specs.Reading.{Place, and_then, field_at, number_at, optional_at, behind_table, behind_tables, tables_at}

-- ---- steps in general

pub then_ok : {A B : Type 0} (r : Result A Malformed) (f : A → Result B Malformed) (y : B) → and_then r f ≡ Ok y → (x : A) × (r ≡ Ok x) × (f x ≡ Ok y)
then_ok (Ok x) f y e = (x, refl, e)
then_ok (Err d) f y e = absurd cc

pub then_err : {A B : Type 0} (r : Result A Malformed) (f : A → Result B Malformed) (y : Malformed) → and_then r f ≡ Err y → (r ≡ Err y) ⊎ ((x : A) × (r ≡ Ok x) × (f x ≡ Err y))
then_err (Ok x) f y e = inr (x, refl, e)
then_err (Err d) f y e = inl cc

-- a test that was passed
pub passed : {A : Type 0} (b : Bool) (x : Result A Malformed) (d : Malformed) (y : A) → cond b x (Err d) ≡ Ok y → (b ≡ true) × (x ≡ Ok y)
passed true x d y e = (refl, e)
passed false x d y e = absurd cc

-- the same where it was failed or something after it
pub passed_err : {A : Type 0} (b : Bool) (x : Result A Malformed) (d e : Malformed) → cond b x (Err d) ≡ Err e → ((b ≡ false) × (d ≡ e)) ⊎ ((b ≡ true) × (x ≡ Err e))
passed_err true x d y e = inr (refl, e)
passed_err false x d y e = inl (refl, cc)

-- a test for a fault that was not met
pub avoided : {A : Type 0} (b : Bool) (x : Result A Malformed) (d : Malformed) (y : A) → cond b (Err d) x ≡ Ok y → (b ≡ false) × (x ≡ Ok y)
avoided true x d y e = absurd cc
avoided false x d y e = (refl, e)

pub avoided_err : {A : Type 0} (b : Bool) (x : Result A Malformed) (d e : Malformed) → cond b (Err d) x ≡ Err e → ((b ≡ true) × (d ≡ e)) ⊎ ((b ≡ false) × (x ≡ Err e))
avoided_err true x d y e = inl (refl, cc)
avoided_err false x d y e = inr (refl, e)

abbrev done : {A : Type 0} → A → Result A Malformed
done x = Ok x

pub ok_is : {A : Type 0} (x y : A) → done x ≡ done y → x ≡ y
ok_is x y e = cc

-- ---- one field

pub record Takes (width : ℕ) (p : Place) (field : List ℕ) (q : Place) : Type 0 where
  pub parts : p.rest ≡ field ++ q.rest
  pub long : length field ≡ width
  pub at : q.at ≡ p.at + width

pub field_takes : (width : ℕ) (p : Place) (x : List ℕ × Place) → field_at width p ≡ Ok x → Takes width p x.0 x.1
unfolding field_at
field_takes width p x e =
    let g = avoided (ltb (length p.rest) width) (Ok (take width p.rest, record { rest = drop width p.rest; at = p.at + width })) (record { at = p.at + length p.rest; what = End }) x e in
    let long : width ≤ length p.rest = ltb-false _ _ g.0 in
    let x-is = ok_is (take width p.rest, record { rest = drop width p.rest; at = p.at + width }) x g.1 in
    subst (λ (y : List ℕ × Place). Takes width p y.0 y.1) x-is (record { parts = sym (take-append-drop width p.rest); long = omega (arith, length-take width p.rest); at = refl })

pub field_again : (width at : ℕ) (bytes field others : List ℕ) → bytes ≡ field ++ others → length field ≡ width → field_at width (record { rest = bytes; at = at }) ≡ Ok (field, record { rest = others; at = at + width })
unfolding field_at
field_again width at bytes field others parts long =
    let enough : ltb (length (field ++ others)) width ≡ false = le-ltb _ _ (omega (arith, length-append field others)) in
    rw (parts, enough, take_at field others width long, drop_at field others width long) refl

-- ---- one number

pub number_takes : (width : ℕ) (p : Place) (n : ℕ × Place) → number_at width p ≡ Ok n → (field : List ℕ) × Takes width p field n.1 × (little_number width field ≡ n.0)
unfolding number_at
number_takes width p n e =
    let x = then_ok (field_at width p) (λ field. Ok (little_number width field.0, field.1)) n e in
    let t = field_takes width p x.0 x.1 in
    let n-is = ok_is (little_number width x.0.0, x.0.1) n x.2 in
    (x.0.0, subst (λ (y : ℕ × Place). Takes width p x.0.0 y.1) n-is t, ap (λ (y : ℕ × Place). y.0) n-is)

pub number_again : (width at : ℕ) (bytes field others : List ℕ) → bytes ≡ field ++ others → length field ≡ width → number_at width (record { rest = bytes; at = at }) ≡ Ok (little_number width field, record { rest = others; at = at + width })
unfolding number_at
number_again width at bytes field others parts long = rw (field_again width at bytes field others parts long) refl

-- ---- a number that may be left out

pub optional_none : (width : ℕ) (p : Place) (n : Option ℕ × Place) → optional_at false width p ≡ Ok n → (None, p) ≡ n
unfolding optional_at
optional_none width p n e = ok_is (None, p) n e

pub optional_some : (width : ℕ) (p : Place) (n : Option ℕ × Place) → optional_at true width p ≡ Ok n → (field : List ℕ) × Takes width p field n.1 × (Some (little_number width field) ≡ n.0)
unfolding optional_at
optional_some width p n e =
    let x = then_ok (number_at width p) (λ number. Ok (Some number.0, number.1)) n e in
    let t = number_takes width p x.0 x.1 in
    let made : Option ℕ × Place = (Some x.0.0, x.0.1) in
    let n-is = ok_is made n x.2 in
    (t.0, subst (λ (y : Option ℕ × Place). Takes width p t.0 y.1) n-is t.1, ap Some t.2 ∙ ap (λ (y : Option ℕ × Place). y.0) n-is)

pub optional_none_again : (width : ℕ) (p : Place) → optional_at false width p ≡ Ok (None, p)
unfolding optional_at
optional_none_again width p = refl

pub optional_some_again : (width at : ℕ) (bytes field others : List ℕ) → bytes ≡ field ++ others → length field ≡ width → optional_at true width (record { rest = bytes; at = at }) ≡ Ok (Some (little_number width field), record { rest = others; at = at + width })
unfolding optional_at
optional_some_again width at bytes field others parts long = rw (number_again width at bytes field others parts long) refl

-- ---- algorithm structures

-- what was taken between two places
pub record Between (p : Place) (field : List ℕ) (q : Place) : Type 0 where
  pub parts : p.rest ≡ field ++ q.rest
  pub at : q.at ≡ p.at + length field

Between-then : (p q r : Place) (a b : List ℕ) → Between p a q → Between q b r → Between p (a ++ b) r
Between-then p q r a b x y = record {
  parts = x.parts ∙ ap (λ (t : List ℕ). a ++ t) y.parts ∙ sym (append_assoc a b r.rest);
  at = omega (arith, length-append a b, x.at, y.at);
}

Takes-Between : (width : ℕ) (p q : Place) (field : List ℕ) → Takes width p field q → Between p field q
Takes-Between width p q field t = record { parts = t.parts; at = omega (arith, t.at, t.long) }

-- the three parts of a structure make one
table_of_parts : (a b c : List ℕ) (n : ℕ) → length a ≡ 1 → length b ≡ 1 → little_number 1 b ≡ n → n / 16 ≡ 2 → length c ≡ 2 + 4 * (n % 16) → IsTable ((a ++ b) ++ c)
table_of_parts [] b c n la lb v f lc = absurd (omega arith)
table_of_parts (x ∷ y ∷ a) b c n la lb v f lc = absurd (omega arith)
table_of_parts (x ∷ []) [] c n la lb v f lc = absurd (omega arith)
table_of_parts (x ∷ []) (y ∷ z ∷ b) c n la lb v f lc = absurd (omega arith)
table_of_parts (x ∷ []) (y ∷ []) c n la lb v f lc =
    let same : y ≡ n = omega arith in
    record {
      fixed_part = omega arith;
      fixed_count = rw same f;
      entries = rw same (omega arith);
    }

pub table_takes : (p q : Place) → behind_table p ≡ Ok q → (table : List ℕ) × Between p table q × IsTable table
unfolding behind_table
table_takes p q e =
    let kind = then_ok (field_at 1 p) _ q e in
    let count = then_ok (number_at 1 kind.0.1) _ q kind.2 in
    let test = passed (eqb (count.0.0 / 16) 2) (and_then (field_at (2 + 4 * (count.0.0 % 16)) count.0.1) (λ others. Ok others.1)) (record { at = kind.0.1.at; what = Field }) q count.2 in
    let others = then_ok (field_at (2 + 4 * (count.0.0 % 16)) count.0.1) (λ others. Ok others.1) q test.1 in
    let a = field_takes 1 p kind.0 kind.1 in
    let b = number_takes 1 kind.0.1 count.0 count.1 in
    let c = field_takes (2 + 4 * (count.0.0 % 16)) count.0.1 others.0 others.1 in
    let whole = Between-then _ _ _ _ _ (Between-then _ _ _ _ _ (Takes-Between _ _ _ _ a) (Takes-Between _ _ _ _ b.1)) (Takes-Between _ _ _ _ c) in
    let is_table = table_of_parts kind.0.0 b.0 others.0.0 count.0.0 a.long b.1.long b.2 (eqb-true _ _ test.0) c.long in
    (((kind.0.0 ++ b.0) ++ others.0.0), subst (λ (y : Place). Between p ((kind.0.0 ++ b.0) ++ others.0.0) y) (ok_is others.0.1 q others.2) whole, is_table)

pub tables_behind : (count : ℕ) (p q : Place) → behind_tables count p ≡ Ok q → (tables : List ℕ) × Between p tables q × AreTables count tables
unfolding behind_tables
tables_behind zero p q e =
    ([], subst (λ (y : Place). Between p [] y) (ok_is p q e) (record { parts = refl; at = omega arith }), refl)
tables_behind (suc count) p q e =
    let first = then_ok (behind_table p) _ q e in
    let t = table_takes p first.0 first.1 in
    let more = tables_behind count first.0 q first.2 in
    ((t.0 ++ more.0), Between-then _ _ _ _ _ t.1 more.1, (t.0, more.0, refl, t.2, more.2))

pub tables_take : (count : ℕ) (p : Place) (x : List ℕ × Place) → tables_at count p ≡ Ok x → Between p x.0 x.1 × AreTables count x.0
unfolding tables_at
tables_take count p x e =
    let after = then_ok (behind_tables count p) _ x e in
    let t = tables_behind count p after.0 after.1 in
    let width : after.0.at - p.at ≡ length t.0 = omega (arith, t.1.at) in
    let taken : take (after.0.at - p.at) p.rest ≡ t.0 = ap (λ (k : ℕ). take k p.rest) width ∙ ap (take (length t.0)) t.1.parts ∙ take_at t.0 after.0.rest (length t.0) refl in
    let made : List ℕ × Place = (t.0, after.0) in
    let cut : List ℕ × Place = (take (after.0.at - p.at) p.rest, after.0) in
    let cut-is : made ≡ cut = ap (λ (y : List ℕ). (y, after.0)) (sym taken) in
    let made-is : made ≡ x = cut-is ∙ ok_is cut x after.2 in
    subst (λ (y : List ℕ × Place). Between p y.0 y.1 × AreTables count y.0) made-is (t.1, t.2)

pub table_again : (at : ℕ) (table others : List ℕ) → IsTable table → behind_table (record { rest = table ++ others; at = at }) ≡ Ok (record { rest = others; at = at + length table })
unfolding behind_table
table_again at [] others t = let h = t.fixed_part in absurd (omega arith)
table_again at (a ∷ []) others t = let h = t.fixed_part in absurd (omega arith)
table_again at (a ∷ b ∷ rest) others t =
    let count : little_number 1 (b ∷ []) ≡ b = omega arith in
    let long : length rest ≡ 2 + 4 * (b % 16) = omega (arith, t.entries) in
    let fixed : eqb (b / 16) 2 ≡ true = eq-eqb _ _ t.fixed_count in
    let first = field_again 1 at (a ∷ b ∷ (rest ++ others)) (a ∷ []) (b ∷ (rest ++ others)) refl refl in
    let second : number_at 1 (record { rest = b ∷ (rest ++ others); at = at + 1 }) ≡ Ok (b, record { rest = rest ++ others; at = at + 1 + 1 }) = number_again 1 (at + 1) (b ∷ (rest ++ others)) (b ∷ []) (rest ++ others) refl refl ∙ ap (λ (k : ℕ). Ok (k, record { rest = rest ++ others; at = at + 1 + 1 })) count in
    let third = field_again (2 + 4 * (b % 16)) (at + 1 + 1) (rest ++ others) rest others refl long in
    let place : at + 1 + 1 + (2 + 4 * (b % 16)) ≡ at + suc (suc (length rest)) = omega (arith, long) in
    rw (first, second, fixed, third) (ap (λ (k : ℕ). Ok (record { rest = others; at = k })) place)

pub tables_behind_again : (count at : ℕ) (tables others : List ℕ) → AreTables count tables → behind_tables count (record { rest = tables ++ others; at = at }) ≡ Ok (record { rest = others; at = at + length tables })
unfolding behind_tables
tables_behind_again zero at tables others t =
    let place : at ≡ at + length tables = omega (arith, ap length t) in
    rw t (let place : at ≡ at + 0 = omega arith in ap (λ (k : ℕ). Ok (record { rest = others; at = k })) place)
tables_behind_again (suc count) at tables others t =
    let parts : tables ++ others ≡ t.0 ++ (t.1 ++ others) = ap (λ (x : List ℕ). x ++ others) t.2 ∙ append_assoc t.0 t.1 others in
    let place : at + length t.0 + length t.1 ≡ at + length tables = omega (arith, ap length t.2, length-append t.0 t.1) in
    rw (parts, table_again at t.0 (t.1 ++ others) t.3, tables_behind_again count (at + length t.0) t.1 others t.4) (ap (λ (k : ℕ). Ok (record { rest = others; at = k })) place)

pub tables_again : (count at : ℕ) (bytes tables others : List ℕ) → bytes ≡ tables ++ others → AreTables count tables → tables_at count (record { rest = bytes; at = at }) ≡ Ok (tables, record { rest = others; at = at + length tables })
unfolding tables_at
tables_again count at bytes tables others parts t =
    let width : at + length tables - at ≡ length tables = omega arith in
    rw (parts, tables_behind_again count at tables others t, width, take_at tables others (length tables) refl) refl
