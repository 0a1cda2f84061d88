-- The first fault of blocks, and that there is none.
use Rattle.std.proofs.Common.{◌≡◌, ◌++◌, List, [], ◌∷◌, Option, Some, None, refl, sym, ap, ◌∙◌, append_assoc}
use Rattle.std.proofs.lemmas.List.{append-nil}
use Rattle.std.specs.Option.{option_or}
use Rattle.script_text.specs.declared.texts.rule.Rule.{Rule}
use Rattle.appraise.specs.declared.appraisal.Appraisal.{Appraisal}
use Rattle.appraise.specs.Records.{Measured}
use Rattle.appraise.specs.Answers.{fault_of}
use Rattle.appraise.specs.Walk.{first_fault_behind}

-- none of the blocks has a fault behind the earlier ones and those before it
abbrev pub HasNone : List Rule → List Measured → List Measured → Type 0
HasNone rules earlier blocks =
    (a : List Measured) (b : Measured) (c : List Measured) → blocks ≡ a ++ b ∷ c → fault_of rules (earlier ++ a) b ≡ None

or_none : (a b : Option Appraisal) → option_or a b ≡ None → (a ≡ None) × (b ≡ None)
or_none None b e = (refl, e)
or_none (Some f) b e = absurd cc

or_assoc : (a b c : Option Appraisal) → option_or (option_or a b) c ≡ option_or a (option_or b c)
or_assoc None b c = refl
or_assoc (Some f) b c = refl

-- behind some blocks, more of them
pub fault_append : (rules : List Rule) (earlier xs ys : List Measured)
    → first_fault_behind rules earlier (xs ++ ys) ≡ option_or (first_fault_behind rules earlier xs) (first_fault_behind rules (earlier ++ xs) ys)
fault_append rules earlier [] ys = ap (λ (l : List Measured). first_fault_behind rules l ys) (sym (append-nil earlier))
fault_append rules earlier (x ∷ xs) ys =
    ap (option_or (fault_of rules earlier x)) (fault_append rules (earlier ++ x ∷ []) xs ys
    ∙ ap (λ (l : List Measured). option_or (first_fault_behind rules (earlier ++ x ∷ []) xs) (first_fault_behind rules l ys)) (append_assoc earlier (x ∷ []) xs))
    ∙ sym (or_assoc (fault_of rules earlier x) (first_fault_behind rules (earlier ++ x ∷ []) xs) (first_fault_behind rules (earlier ++ x ∷ xs) ys))

pub none_found : (rules : List Rule) (earlier blocks : List Measured) → first_fault_behind rules earlier blocks ≡ None → HasNone rules earlier blocks
none_found rules earlier [] h [] b c e = absurd cc
none_found rules earlier [] h (y ∷ a) b c e = absurd cc
none_found rules earlier (x ∷ xs) h [] b c e =
    let same : x ≡ b = cc in
    ap (λ (l : List Measured). fault_of rules l b) (append-nil earlier) ∙ ap (fault_of rules earlier) (sym same)
    ∙ (or_none (fault_of rules earlier x) (first_fault_behind rules (earlier ++ x ∷ []) xs) h).0
none_found rules earlier (x ∷ xs) h (y ∷ a) b c e =
    let same : x ≡ y = cc in
    let rest : xs ≡ a ++ b ∷ c = cc in
    ap (λ (z : Measured). fault_of rules (earlier ++ z ∷ a) b) (sym same)
    ∙ ap (λ (l : List Measured). fault_of rules l b) (sym (append_assoc earlier (x ∷ []) a))
    ∙ none_found rules (earlier ++ x ∷ []) xs (or_none (fault_of rules earlier x) (first_fault_behind rules (earlier ++ x ∷ []) xs) h).1 a b c rest

none_behind : (rules : List Rule) (earlier : List Measured) (x : Measured) (xs : List Measured) → HasNone rules earlier (x ∷ xs) → HasNone rules (earlier ++ x ∷ []) xs
none_behind rules earlier x xs none a b c e =
    ap (λ (l : List Measured). fault_of rules l b) (append_assoc earlier (x ∷ []) a) ∙ none (x ∷ a) b c (ap (λ (l : List Measured). x ∷ l) e)

pub found_none : (rules : List Rule) (earlier blocks : List Measured) → HasNone rules earlier blocks → first_fault_behind rules earlier blocks ≡ None
found_none rules earlier [] none = refl
found_none rules earlier (x ∷ xs) none =
    ap (λ (o : Option Appraisal). option_or o (first_fault_behind rules (earlier ++ x ∷ []) xs))
    (ap (λ (l : List Measured). fault_of rules l x) (sym (append-nil earlier)) ∙ none [] x xs refl)
    ∙ found_none rules (earlier ++ x ∷ []) xs (none_behind rules earlier x xs none)

-- a block with a fault behind blocks without one
pub found_here : (rules : List Rule) (earlier blocks : List Measured) (block : Measured) (later : List Measured) (fault : Appraisal)
    → HasNone rules earlier blocks → fault_of rules (earlier ++ blocks) block ≡ Some fault
    → first_fault_behind rules earlier (blocks ++ block ∷ later) ≡ Some fault
found_here rules earlier blocks block later fault none e =
    fault_append rules earlier blocks (block ∷ later)
    ∙ ap (λ (o : Option Appraisal). option_or o (first_fault_behind rules (earlier ++ blocks) (block ∷ later))) (found_none rules earlier blocks none)
    ∙ ap (λ (o : Option Appraisal). option_or o (first_fault_behind rules ((earlier ++ blocks) ++ block ∷ []) later)) e

-- where a first fault stands
pub record Stands (rules : List Rule) (earlier blocks : List Measured) (fault : Appraisal) : Type 0 where
  pub before : List Measured
  pub block : Measured
  pub later : List Measured
  pub are : blocks ≡ before ++ block ∷ later
  pub none : HasNone rules earlier before
  pub here : fault_of rules (earlier ++ before) block ≡ Some fault

none_in_front : (rules : List Rule) (earlier : List Measured) (x : Measured) (xs : List Measured) → fault_of rules earlier x ≡ None
    → HasNone rules (earlier ++ x ∷ []) xs → HasNone rules earlier (x ∷ xs)
none_in_front rules earlier x xs first none [] b c e =
    let same : x ≡ b = cc in
    ap (λ (l : List Measured). fault_of rules l b) (append-nil earlier) ∙ ap (fault_of rules earlier) (sym same) ∙ first
none_in_front rules earlier x xs first none (y ∷ a) b c e =
    let same : x ≡ y = cc in
    let rest : xs ≡ a ++ b ∷ c = cc in
    ap (λ (z : Measured). fault_of rules (earlier ++ z ∷ a) b) (sym same)
    ∙ ap (λ (l : List Measured). fault_of rules l b) (sym (append_assoc earlier (x ∷ []) a)) ∙ none a b c rest

has_none_of_none : (rules : List Rule) (earlier : List Measured) → HasNone rules earlier []
has_none_of_none rules earlier [] b c e = absurd cc
has_none_of_none rules earlier (y ∷ a) b c e = absurd cc

by_first : (rules : List Rule) (earlier : List Measured) (x : Measured) (xs : List Measured) (fault : Appraisal) (first : Option Appraisal)
    → fault_of rules earlier x ≡ first → option_or first (first_fault_behind rules (earlier ++ x ∷ []) xs) ≡ Some fault
    → (first_fault_behind rules (earlier ++ x ∷ []) xs ≡ Some fault → Stands rules (earlier ++ x ∷ []) xs fault) → Stands rules earlier (x ∷ xs) fault
by_first rules earlier x xs fault (Some f) is h more = record {
  before = [];
  block = x;
  later = xs;
  are = refl;
  none = has_none_of_none rules earlier;
  here = ap (λ (l : List Measured). fault_of rules l x) (append-nil earlier) ∙ is ∙ h;
}
by_first rules earlier x xs fault None is h more =
    let s = more h in
    record {
      before = x ∷ s.before;
      block = s.block;
      later = s.later;
      are = ap (λ (l : List Measured). x ∷ l) s.are;
      none = none_in_front rules earlier x s.before is s.none;
      here = ap (λ (l : List Measured). fault_of rules l s.block) (sym (append_assoc earlier (x ∷ []) s.before)) ∙ s.here;
    }

pub found : (rules : List Rule) (earlier blocks : List Measured) (fault : Appraisal) → first_fault_behind rules earlier blocks ≡ Some fault
    → Stands rules earlier blocks fault
found rules earlier [] fault h = absurd cc
found rules earlier (x ∷ xs) fault h = by_first rules earlier x xs fault (fault_of rules earlier x) refl h (found rules (earlier ++ x ∷ []) xs fault)
