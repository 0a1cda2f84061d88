-- At most four types are answered.
use Rattle.std.proofs.Common.{◌≡◌, ℕ, ◌+◌, ◌≤◌, ◌<◌, ◌++◌, Bool, true, false, cond, eqb, List, [], ◌∷◌, length, map, refl, sym, ap, ◌∙◌, arith}
use Rattle.std.specs.Prelude.{not, nat_le}
use Rattle.std.specs.List.{list_all}
use Rattle.std.proofs.lemmas.Bool.{eqb-true, eqb-false, and_parts, leb-true}
use Rattle.std.proofs.lemmas.List.{length-append}
use Rattle.spdm_grammar.specs.Message.{OfferMessage}
use Rattle.negotiate.specs.Tables.{Table, tables_in}
use Rattle.negotiate.specs.Reply.{is_answered, without, answered_once, answered_kinds}
use Rattle.negotiate.proofs.KindLists.{is_in, fresh, answered_after, comes_next, after_none}

-- how often the type stands in the list
abbrev times : ℕ → List ℕ → ℕ
times kind [] = 0
times kind (other ∷ kinds) = cond (eqb other kind) 1 0 + times kind kinds

-- ---- without a type

fewer_head : (b : Bool) (x kind : ℕ) (xs ys : List ℕ) → times kind xs ≤ times kind ys → times kind (cond (not b) (x ∷ xs) xs) ≤ times kind (x ∷ ys)
fewer_head true x kind xs ys h = omega arith
fewer_head false x kind xs ys h = omega arith

fewer : (kind other : ℕ) (kinds : List ℕ) → times kind (without other kinds) ≤ times kind kinds
fewer kind other [] = omega arith
fewer kind other (x ∷ kinds) = fewer_head (eqb x other) x kind (without other kinds) kinds (fewer kind other kinds)

gone_head : (b : Bool) (x kind : ℕ) (xs : List ℕ) → eqb x kind ≡ b → times kind xs ≡ 0 → times kind (cond (not b) (x ∷ xs) xs) ≡ 0
gone_head true x kind xs e h = h
gone_head false x kind xs e h = rw e (omega (arith, h))

gone : (kind : ℕ) (kinds : List ℕ) → times kind (without kind kinds) ≡ 0
gone kind [] = refl
gone kind (x ∷ kinds) = gone_head (eqb x kind) x kind (without kind kinds) refl (gone kind kinds)

-- ---- each type once

once_head : (a b : Bool) (x kind : ℕ) (kinds : List ℕ) → eqb x kind ≡ b → times kind kinds ≤ 1 → times kind (cond a (x ∷ without x kinds) kinds) ≤ 1
once_head false b x kind kinds e h = h
once_head true true x kind kinds e h =
    let none : times kind (without x kinds) ≡ 0 = ap (λ (k : ℕ). times k (without x kinds)) (sym (eqb-true x kind e)) ∙ gone x kinds in
    rw (e, none) (omega arith)
once_head true false x kind kinds e h = rw e (omega (arith, fewer kind x kinds))

once : (kind : ℕ) (kinds : List ℕ) → times kind (answered_once kinds) ≤ 1
once kind [] = omega arith
once kind (x ∷ kinds) = once_head (is_answered x) (eqb x kind) x kind (answered_once kinds) refl (once kind kinds)

-- ---- all of them answered

all_head : (b : Bool) (x : ℕ) (xs : List ℕ) → is_answered x ≡ true → list_all is_answered xs ≡ true → list_all is_answered (cond (not b) (x ∷ xs) xs) ≡ true
all_head true x xs e h = h
all_head false x xs e h = rw (e, h) refl

all_without : (kind : ℕ) (kinds : List ℕ) → list_all is_answered kinds ≡ true → list_all is_answered (without kind kinds) ≡ true
all_without kind [] h = refl
all_without kind (x ∷ kinds) h =
    let both = and_parts (is_answered x) (list_all is_answered kinds) h in
    all_head (eqb x kind) x (without kind kinds) both.0 (all_without kind kinds both.1)

all_step : (b : Bool) (x : ℕ) (xs : List ℕ) → is_answered x ≡ b → list_all is_answered xs ≡ true → list_all is_answered (cond b (x ∷ without x xs) xs) ≡ true
all_step false x xs e h = h
all_step true x xs e h = rw (e, all_without x xs h) refl

all_answered : (kinds : List ℕ) → list_all is_answered (answered_once kinds) ≡ true
all_answered [] = refl
all_answered (x ∷ kinds) = all_step (is_answered x) x (answered_once kinds) refl (all_answered kinds)

-- ---- so there are at most four

one_of : (a b c d : Bool) (x : ℕ) → eqb x 2 ≡ a → eqb x 3 ≡ b → eqb x 4 ≡ c → eqb x 5 ≡ d → 2 ≤ x → x ≤ 5 → 1 ≤ cond a 1 0 + cond b 1 0 + cond c 1 0 + cond d 1 0
one_of true b c d x e f g h l m = omega arith
one_of false true c d x e f g h l m = omega arith
one_of false false true d x e f g h l m = omega arith
one_of false false false true x e f g h l m = omega arith
one_of false false false false x e f g h l m = absurd (omega (arith, eqb-false x 2 e, eqb-false x 3 f, eqb-false x 4 g, eqb-false x 5 h))

counted : (kinds : List ℕ) → list_all is_answered kinds ≡ true → length kinds ≤ times 2 kinds + times 3 kinds + times 4 kinds + times 5 kinds
counted [] h = omega arith
counted (x ∷ kinds) h =
    let both = and_parts (is_answered x) (list_all is_answered kinds) h in
    let range = and_parts (nat_le 2 x) (nat_le x 5) both.0 in
    let one = one_of (eqb x 2) (eqb x 3) (eqb x 4) (eqb x 5) x refl refl refl refl (leb-true 2 x range.0) (leb-true x 5 range.1) in
    let others = counted kinds both.1 in
    omega (arith, one, others)

pub few : (kinds : List ℕ) → length (answered_once kinds) ≤ 4
few kinds = omega (arith, counted (answered_once kinds) (all_answered kinds), once 2 kinds, once 3 kinds, once 4 kinds, once 5 kinds)

-- a type that comes next finds room
pub room : (done kinds all : List ℕ) (kind : ℕ) → answered_after done (kind ∷ kinds) ≡ answered_after [] all → is_answered kind ≡ true → is_in done kind ≡ false → length done < 4
room done kinds all kind e answered new =
    let whole : (done ++ kind ∷ fresh done (without kind (answered_once kinds))) ≡ answered_once all = sym (comes_next done kind kinds answered new) ∙ e ∙ after_none all in
    let long : length (done ++ kind ∷ fresh done (without kind (answered_once kinds))) ≡ length (answered_once all) = ap (λ (l : List ℕ). length l) whole in
    omega (arith, long, few all, length-append done (kind ∷ fresh done (without kind (answered_once kinds))))

pub few_kinds : (offer : OfferMessage) → length (answered_kinds offer) ≤ 4
few_kinds offer = few (map (λ (table : Table). table.kind) (tables_in offer.count offer.tables))
