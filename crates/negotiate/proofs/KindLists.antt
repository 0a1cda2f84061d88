-- The types of an offer that are answered, one structure after the other.
use Rattle.std.proofs.Common.{◌≡◌, ℕ, suc, ◌+◌, ◌-◌, ◌<◌, ◌≤◌, Bool, true, false, cond, eqb, List, [], ◌∷◌, ◌++◌, map, refl, sym, ap, ◌∙◌, append_assoc, arith}
use Rattle.std.specs.Prelude.{◌==◌, ◌||◌, not, slice_index}
use Rattle.std.specs.List.{filter, list_any}
use Rattle.std.proofs.lemmas.Bool.{eqb-true, eqb-false, eq-eqb, ne_eqb}
use Rattle.std.proofs.lemmas.List.Folds.{list_any-append}
use Rattle.negotiate.specs.Tables.{Table, tables_in, value_of, front_value, behind_front}
use Rattle.negotiate.specs.Reply.{is_answered, without, answered_once}

-- the type is in the list
abbrev pub is_in : List ℕ → ℕ → Bool
is_in kinds kind = list_any (λ other. other == kind) kinds

-- those that are not in the list `done`
abbrev pub fresh : List ℕ → List ℕ → List ℕ
fresh done kinds = filter (λ kind. not (is_in done kind)) kinds

-- the types that are answered, where those in `done` were answered before
abbrev pub answered_after : List ℕ → List ℕ → List ℕ
answered_after done kinds = done ++ fresh done (answered_once kinds)

-- the types of so many structures
abbrev pub kinds_in : ℕ → List ℕ → List ℕ
kinds_in count bytes = map (λ (table : Table). table.kind) (tables_in count bytes)

-- ---- one structure more

pub tables_next : (count i : ℕ) (bytes : List ℕ) → i < count → tables_in (count - i) bytes ≡ (record { kind = slice_index bytes 0; value = front_value bytes } ∷ tables_in (count - (i + 1)) (behind_front bytes))
tables_next count i bytes h =
    let e : count - i ≡ suc (count - (i + 1)) = omega arith in
    ap (λ (n : ℕ). tables_in n bytes) e

pub kinds_next : (count i : ℕ) (bytes : List ℕ) → i < count → kinds_in (count - i) bytes ≡ (slice_index bytes 0 ∷ kinds_in (count - (i + 1)) (behind_front bytes))
kinds_next count i bytes h = ap (λ (ts : List Table). map (λ (table : Table). table.kind) ts) (tables_next count i bytes h)

pub value_next : (kind count i : ℕ) (bytes : List ℕ) → i < count → eqb (slice_index bytes 0) kind ≡ false → value_of kind (tables_in (count - i) bytes) ≡ value_of kind (tables_in (count - (i + 1)) (behind_front bytes))
value_next kind count i bytes h other =
    ap (λ (ts : List Table). value_of kind ts) (tables_next count i bytes h)
    ∙ ap (λ (b : Bool). cond b (front_value bytes) (value_of kind (tables_in (count - (i + 1)) (behind_front bytes)))) other

pub value_here : (kind count i : ℕ) (bytes : List ℕ) → i < count → eqb (slice_index bytes 0) kind ≡ true → value_of kind (tables_in (count - i) bytes) ≡ front_value bytes
value_here kind count i bytes h here =
    ap (λ (ts : List Table). value_of kind ts) (tables_next count i bytes h)
    ∙ ap (λ (b : Bool). cond b (front_value bytes) (value_of kind (tables_in (count - (i + 1)) (behind_front bytes)))) here

-- ---- a type that was answered

known_head : (b c : Bool) (x : ℕ) (xs ys done : List ℕ) → (b ≡ true → c ≡ true) → is_in done x ≡ c → fresh done xs ≡ fresh done ys → fresh done (cond (not b) (x ∷ xs) xs) ≡ fresh done (x ∷ ys)
known_head true true x xs ys done h e f = rw e f
known_head true false x xs ys done h e f = let t : false ≡ true = h refl in absurd cc
known_head false c x xs ys done h e f = ap (λ (zs : List ℕ). cond (not (is_in done x)) (x ∷ zs) zs) f

fresh_known : (done : List ℕ) (kind : ℕ) (kinds : List ℕ) → is_in done kind ≡ true → fresh done (without kind kinds) ≡ fresh done kinds
fresh_known done kind [] h = refl
fresh_known done kind (other ∷ kinds) h =
    known_head (eqb other kind) (is_in done other) other (without kind kinds) kinds done (λ e. ap (λ (k : ℕ). is_in done k) (eqb-true other kind e) ∙ h) refl (fresh_known done kind kinds h)

-- ---- a type that was not

eqb_turned : (a b : ℕ) → eqb a b ≡ eqb b a
eqb_turned a b = elim (eqb a b) as (λ t. eqb a b ≡ t → eqb a b ≡ eqb b a) [
  | true ↦ λ e. e ∙ sym (eq-eqb b a (sym (eqb-true a b e)))
  | false ↦ λ e. e ∙ sym (ne_eqb b a (λ f. eqb-false a b e (sym f)))
] refl

in_more : (done : List ℕ) (kind other : ℕ) → is_in (done ++ kind ∷ []) other ≡ (is_in done other || eqb other kind)
in_more done kind other = list_any-append (λ k. k == other) done (kind ∷ []) ∙ ap (λ (b : Bool). is_in done other || b) (or_false (eqb kind other) ∙ eqb_turned kind other)
  where
    or_false : (b : Bool) → (b || false) ≡ b
    or_false true = refl
    or_false false = refl

new_head : (b c : Bool) (x : ℕ) (xs ys zs done : List ℕ) → is_in done x ≡ c → fresh done xs ≡ zs → fresh done (cond (not b) (x ∷ xs) xs) ≡ cond (not (c || b)) (x ∷ zs) zs
new_head true true x xs ys zs done e f = f
new_head true false x xs ys zs done e f = f
new_head false true x xs ys zs done e f = rw e f
new_head false false x xs ys zs done e f = rw e (ap (λ (l : List ℕ). x ∷ l) f)

fresh_new : (done : List ℕ) (kind : ℕ) (kinds : List ℕ) → fresh done (without kind kinds) ≡ fresh (done ++ kind ∷ []) kinds
fresh_new done kind [] = refl
fresh_new done kind (other ∷ kinds) =
    new_head (eqb other kind) (is_in done other) other (without kind kinds) kinds (fresh (done ++ kind ∷ []) kinds) done refl (fresh_new done kind kinds)
    ∙ ap (λ (b : Bool). cond (not b) (other ∷ fresh (done ++ kind ∷ []) kinds) (fresh (done ++ kind ∷ []) kinds)) (sym (in_more done kind other))

-- ---- the three steps

pub after_other : (done : List ℕ) (kind : ℕ) (kinds : List ℕ) → is_answered kind ≡ false → answered_after done (kind ∷ kinds) ≡ answered_after done kinds
after_other done kind kinds h = ap (λ (b : Bool). done ++ fresh done (cond b (kind ∷ without kind (answered_once kinds)) (answered_once kinds))) h

pub after_known : (done : List ℕ) (kind : ℕ) (kinds : List ℕ) → is_in done kind ≡ true → answered_after done (kind ∷ kinds) ≡ answered_after done kinds
after_known done kind kinds h = known (is_answered kind) refl
  where
    known : (b : Bool) → is_answered kind ≡ b → answered_after done (kind ∷ kinds) ≡ answered_after done kinds
    known false e = after_other done kind kinds e
    known true e =
        ap (λ (b : Bool). done ++ fresh done (cond b (kind ∷ without kind (answered_once kinds)) (answered_once kinds))) e
        ∙ ap (λ (b : Bool). done ++ cond (not b) (kind ∷ fresh done (without kind (answered_once kinds))) (fresh done (without kind (answered_once kinds)))) h
        ∙ ap (λ (l : List ℕ). done ++ l) (fresh_known done kind (answered_once kinds) h)

-- the type comes next
pub comes_next : (done : List ℕ) (kind : ℕ) (kinds : List ℕ) → is_answered kind ≡ true → is_in done kind ≡ false → answered_after done (kind ∷ kinds) ≡ (done ++ kind ∷ fresh done (without kind (answered_once kinds)))
comes_next done kind kinds e h =
    ap (λ (b : Bool). done ++ fresh done (cond b (kind ∷ without kind (answered_once kinds)) (answered_once kinds))) e
    ∙ ap (λ (b : Bool). done ++ cond (not b) (kind ∷ fresh done (without kind (answered_once kinds))) (fresh done (without kind (answered_once kinds)))) h

pub after_new : (done : List ℕ) (kind : ℕ) (kinds : List ℕ) → is_answered kind ≡ true → is_in done kind ≡ false → answered_after done (kind ∷ kinds) ≡ answered_after (done ++ kind ∷ []) kinds
after_new done kind kinds e h =
    comes_next done kind kinds e h
    ∙ ap (λ (l : List ℕ). done ++ kind ∷ l) (fresh_new done kind (answered_once kinds))
    ∙ sym (append_assoc done (kind ∷ []) (fresh (done ++ kind ∷ []) (answered_once kinds)))

-- ---- from the start

fresh_none : (kinds : List ℕ) → fresh [] kinds ≡ kinds
fresh_none [] = refl
fresh_none (kind ∷ kinds) = ap (λ (l : List ℕ). kind ∷ l) (fresh_none kinds)

pub after_none : (kinds : List ℕ) → answered_after [] kinds ≡ answered_once kinds
after_none kinds = fresh_none (answered_once kinds)

append_none : (l : List ℕ) → (l ++ []) ≡ l
append_none [] = refl
append_none (x ∷ l) = ap (λ (k : List ℕ). x ∷ k) (append_none l)

pub all_done : (done : List ℕ) (count i : ℕ) (rest : List ℕ) → count ≤ i → answered_after done (kinds_in (count - i) rest) ≡ done
all_done done count i rest h =
    let e : count - i ≡ 0 = omega arith in
    ap (λ (n : ℕ). answered_after done (kinds_in n rest)) e ∙ append_none done

-- ---- one structure of an offer

-- what stands before a structure is looked at
pub record Before (done : List ℕ) (count i : ℕ) (bytes total : List ℕ) (kind : ℕ) : Type 0 where
  pub holds : answered_after done (kinds_in (count - i) bytes) ≡ total
  pub more : i < count
  pub front : kind ≡ slice_index bytes 0

pub looked_at : (done : List ℕ) (count i : ℕ) (bytes total : List ℕ) (kind : ℕ) → Before done count i bytes total kind → answered_after done (kind ∷ kinds_in (count - (i + 1)) (behind_front bytes)) ≡ total
looked_at done count i bytes total kind b =
    ap (λ (k : ℕ). answered_after done (k ∷ kinds_in (count - (i + 1)) (behind_front bytes))) b.front
    ∙ ap (λ (l : List ℕ). answered_after done l) (sym (kinds_next count i bytes b.more)) ∙ b.holds

pub kept_from : (done now : List ℕ) (count i : ℕ) (bytes total behind : List ℕ) (kind : ℕ) → behind ≡ behind_front bytes → Before done count i bytes total kind
    → answered_after now (kinds_in (count - (i + 1)) (behind_front bytes)) ≡ answered_after done (kind ∷ kinds_in (count - (i + 1)) (behind_front bytes))
    → answered_after now (kinds_in (count - (i + 1)) behind) ≡ total
kept_from done now count i bytes total behind kind e b step =
    ap (λ (l : List ℕ). answered_after now (kinds_in (count - (i + 1)) l)) e ∙ step ∙ looked_at done count i bytes total kind b
