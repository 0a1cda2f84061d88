-- The structures of a reply, read again.
use Rattle.std.proofs.Common.{◌≡◌, ℕ, ◌*◌, Bool, true, false, cond, eqb, List, [], ◌∷◌, length, map, refl, sym, ap, ◌∙◌, add-zero, arith}
use Rattle.std.specs.Prelude.{◌||◌, not}
use Rattle.std.proofs.lemmas.Bool.{eqb-true, eqb-false}
use Rattle.std.proofs.lemmas.List.{length-append}
use Rattle.spdm_grammar.specs.declared.messages.choice.Choice.{Choice}
use Rattle.spdm_grammar.specs.Layout.{AreTables}
use Rattle.negotiate.specs.Capabilities.{has_all}
use Rattle.negotiate.specs.Tables.{Table, tables_in, value_of}
use Rattle.negotiate.specs.Reply.{is_answered, without, answered_once, answer_bits, answer_tables}
use Rattle.negotiate.proofs.KindLists.{is_in}

-- the structures of a list of types
abbrev pub answers : Choice → List ℕ → List Table
answers choice [] = []
answers choice (kind ∷ kinds) = record { kind = kind; value = answer_bits choice kind } ∷ answers choice kinds

pub read_again : (choice : Choice) (kinds : List ℕ) → tables_in (length kinds) (answer_tables choice kinds) ≡ answers choice kinds
read_again choice [] = refl
read_again choice (kind ∷ kinds) =
    ap (λ (v : ℕ). let table : Table = record { kind = kind; value = v } in table ∷ tables_in (length kinds) (answer_tables choice kinds)) (add-zero (answer_bits choice kind))
    ∙ ap (λ (ts : List Table). record { kind = kind; value = answer_bits choice kind } ∷ ts) (read_again choice kinds)

pub are_tables : (choice : Choice) (kinds : List ℕ) → AreTables (length kinds) (answer_tables choice kinds)
are_tables choice [] = refl
are_tables choice (kind ∷ kinds) = (kind ∷ 0x20 ∷ answer_bits choice kind ∷ 0 ∷ [], answer_tables choice kinds, refl, record { fixed_part = omega arith; fixed_count = refl; entries = refl }, are_tables choice kinds)

pub four_each : (choice : Choice) (kinds : List ℕ) → length (answer_tables choice kinds) ≡ 4 * length kinds
four_each choice [] = refl
four_each choice (kind ∷ kinds) = omega (arith, four_each choice kinds, length-append (kind ∷ 0x20 ∷ answer_bits choice kind ∷ 0 ∷ []) (answer_tables choice kinds))

-- ---- a type among them

value_head : (b : Bool) (kind other : ℕ) (choice : Choice) (kinds : List ℕ) → eqb other kind ≡ b → (is_in kinds kind ≡ true → value_of kind (answers choice kinds) ≡ answer_bits choice kind) → is_in (other ∷ kinds) kind ≡ true → value_of kind (answers choice (other ∷ kinds)) ≡ answer_bits choice kind
value_head true kind other choice kinds e again h = ap (λ (c : Bool). cond c (answer_bits choice other) (value_of kind (answers choice kinds))) e ∙ ap (λ (k : ℕ). answer_bits choice k) (eqb-true other kind e)
value_head false kind other choice kinds e again h =
    ap (λ (c : Bool). cond c (answer_bits choice other) (value_of kind (answers choice kinds))) e
    ∙ again (ap (λ (c : Bool). c || is_in kinds kind) (sym e) ∙ h)

pub answer_at : (kind : ℕ) (choice : Choice) (kinds : List ℕ) → is_in kinds kind ≡ true → value_of kind (answers choice kinds) ≡ answer_bits choice kind
answer_at kind choice [] h = absurd cc
answer_at kind choice (other ∷ kinds) h = value_head (eqb other kind) kind other choice kinds refl (answer_at kind choice kinds) h

-- ---- each type of an offer that is answered has its answer

stays_head : (b c : Bool) (kind other x : ℕ) (kinds : List ℕ) → (c ≡ true → b ≡ true → other ≡ kind) → eqb x kind ≡ c → is_in (without other kinds) kind ≡ is_in kinds kind → (other ≡ kind → ⊥) → is_in (cond (not b) (x ∷ without other kinds) (without other kinds)) kind ≡ (c || is_in kinds kind)
stays_head true true kind other x kinds both e same ne = absurd (ne (both refl refl))
stays_head true false kind other x kinds both e same ne = same
stays_head false c kind other x kinds both e same ne = ap (λ (d : Bool). d || is_in (without other kinds) kind) e ∙ ap (λ (d : Bool). c || d) same

stays : (kind other : ℕ) (kinds : List ℕ) → (other ≡ kind → ⊥) → is_in (without other kinds) kind ≡ is_in kinds kind
stays kind other [] ne = refl
stays kind other (x ∷ kinds) ne =
    stays_head (eqb x other) (eqb x kind) kind other x kinds (λ c b. sym (eqb-true x other b) ∙ eqb-true x kind c) refl (stays kind other kinds ne) ne

once_head : (a b : Bool) (kind other : ℕ) (kinds once : List ℕ) → is_answered other ≡ a → eqb other kind ≡ b → is_answered kind ≡ true → (is_in kinds kind ≡ true → is_in once kind ≡ true) → is_in (other ∷ kinds) kind ≡ true → is_in (cond a (other ∷ without other once) once) kind ≡ true
once_head true true kind other kinds once f e answered again h = ap (λ (c : Bool). c || is_in (without other once) kind) e
once_head true false kind other kinds once f e answered again h =
    ap (λ (c : Bool). c || is_in (without other once) kind) e ∙ stays kind other once (eqb-false other kind e) ∙ again (ap (λ (c : Bool). c || is_in kinds kind) (sym e) ∙ h)
once_head false true kind other kinds once f e answered again h =
    let clash : false ≡ true = sym f ∙ ap (λ (k : ℕ). is_answered k) (eqb-true other kind e) ∙ answered in absurd cc
once_head false false kind other kinds once f e answered again h = again (ap (λ (c : Bool). c || is_in kinds kind) (sym e) ∙ h)

pub is_in_once : (kind : ℕ) (kinds : List ℕ) → is_answered kind ≡ true → is_in kinds kind ≡ true → is_in (answered_once kinds) kind ≡ true
is_in_once kind [] answered h = h
is_in_once kind (other ∷ kinds) answered h =
    once_head (is_answered other) (eqb other kind) kind other kinds (answered_once kinds) refl refl answered (is_in_once kind kinds answered) h

none_head : (b : Bool) (kind : ℕ) (table : Table) (tables : List Table) → eqb table.kind kind ≡ b → (is_in (map (λ (t : Table). t.kind) tables) kind ≡ false → value_of kind tables ≡ 0) → is_in (map (λ (t : Table). t.kind) (table ∷ tables)) kind ≡ false → value_of kind (table ∷ tables) ≡ 0
none_head true kind table tables e again h = let clash : true ≡ false = ap (λ (c : Bool). c || is_in (map (λ (t : Table). t.kind) tables) kind) (sym e) ∙ h in absurd cc
none_head false kind table tables e again h =
    ap (λ (c : Bool). cond c table.value (value_of kind tables)) e ∙ again (ap (λ (c : Bool). c || is_in (map (λ (t : Table). t.kind) tables) kind) (sym e) ∙ h)

pub no_value : (kind : ℕ) (tables : List Table) → is_in (map (λ (t : Table). t.kind) tables) kind ≡ false → value_of kind tables ≡ 0
no_value kind [] h = refl
no_value kind (table ∷ tables) h = none_head (eqb table.kind kind) kind table tables refl (no_value kind tables) h

-- a type that has a bit stands among the structures
pub has_kind : (kind bit : ℕ) (tables : List Table) → has_all 0 bit ≡ false → has_all (value_of kind tables) bit ≡ true → is_in (map (λ (t : Table). t.kind) tables) kind ≡ true
has_kind kind bit tables none h = either (is_in (map (λ (t : Table). t.kind) tables) kind) refl
  where
    either : (b : Bool) → is_in (map (λ (t : Table). t.kind) tables) kind ≡ b → is_in (map (λ (t : Table). t.kind) tables) kind ≡ true
    either true e = e
    either false e = let clash : true ≡ false = sym h ∙ ap (λ (v : ℕ). has_all v bit) (no_value kind tables e) ∙ none in absurd cc
