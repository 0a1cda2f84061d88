-- What the rules of a policy are not: of an index that names no block, or two of one index.
use Rattle.std.proofs.Common.{◌≡◌, ◌<◌, ◌≤◌, ◌⊎◌, ◌==◌, ◌||◌, ℕ, Bool, true, false, List, [], ◌∷◌, Some, None, cond, refl, sym, ap, ◌∙◌, inl, inr, arith, eqb-true, eq-eqb}
use Rattle.std.proofs.lemmas.Bool.{false≢true, or_parts, eqb-false}
use Rattle.std.specs.List.{Contains}
use Rattle.std.specs.Prelude.{nat_le}
use Rattle.script_text.specs.PolicyText.{index_of, has_index}
use Rattle.script_text.specs.declared.texts.rule.Rule.{Rule}
use Rattle.script_text.specs.declared.texts.rule.Rule.TheVariants.{Expect, Skip}
use Rattle.appraise.specs.declared.policy_fault.PolicyFault.TheVariants.{IndexOutOfRange, IndexTaken}
use Rattle.appraise.specs.Policies.{has_bad_index, has_twice, policy_fault, is_expectation, expects}
use Rattle.appraise.proofs.Membership.{any_from, any_to, none_from, here_or_later}

fine_parts : (bad twice : Bool) → cond bad (Some IndexOutOfRange) (cond twice (Some IndexTaken) None) ≡ None → (bad ≡ false) × (twice ≡ false)
fine_parts false false h = (refl, refl)
fine_parts false true h = absurd cc
fine_parts true twice h = absurd cc

pub policy_parts : (rules : List Rule) → policy_fault rules ≡ None → (has_bad_index rules ≡ false) × (has_twice rules ≡ false)
policy_parts rules h = fine_parts (has_bad_index rules) (has_twice rules) h

-- The index of a rule that expects it.
pub expectation_index : (index : ℕ) (rule : Rule) → is_expectation index rule ≡ true → index_of rule ≡ index
expectation_index index (Expect i t v) h = eqb-true i index h
expectation_index index (Skip i) h = absurd (false≢true h)

not_bad : (index : ℕ) → (index == 0 || nat_le 255 index) ≡ false → (0 < index) × (index < 255)
not_bad index h = let parts = or_parts (index == 0) (nat_le 255 index) h in
    (omega (arith, eqb-false index 0 parts.0), grind arith)

none_by : (b : Bool) → (b ≡ true → ⊥) → b ≡ false
none_by true h = absurd (h refl)
none_by false h = refl

-- No rule of a policy expects a block of an index that names none.
pub expects_in_range : (rules : List Rule) (index : ℕ) → policy_fault rules ≡ None → expects index rules ≡ true → (0 < index) × (index < 255)
expects_in_range rules index fine h =
    let found = any_from (λ (rule : Rule). is_expectation index rule) rules h in
    let same : index_of found.0 ≡ index = expectation_index index found.0 found.2 in
    let good = none_from (λ (rule : Rule). index_of rule == 0 || nat_le 255 (index_of rule)) rules found.0 (policy_parts rules fine).0 found.1 in
    let range = not_bad (index_of found.0) good in
    (omega (arith, same, range.0), omega (arith, same, range.1))

pub expects_none : (rules : List Rule) (index : ℕ) → policy_fault rules ≡ None → (index ≡ 0) ⊎ (255 ≤ index) → expects index rules ≡ false
expects_none rules index fine out =
    none_by (expects index rules) (λ h.
    let range = expects_in_range rules index fine h in
    elim out [ inl e ↦ absurd (omega (arith, e, range.0)) | inr e ↦ absurd (omega (arith, e, range.1)) ])

-- Two rules of one index are one rule.
pub one_rule : (rules : List Rule) (one other : Rule) → has_twice rules ≡ false → Contains rules one → Contains rules other
    → index_of one ≡ index_of other → one ≡ other
one_rule [] one other h c d e = absurd (omega (arith, c.1))
one_rule (rule ∷ rules) one other h c d e =
    let parts = or_parts (has_index (index_of rule) rules) (has_twice rules) h in
    elim (here_or_later rule one rules c) [
      | inl is_one ↦ elim (here_or_later rule other rules d) [
        | inl is_other ↦ sym is_one ∙ is_other
        | inr d' ↦ absurd (false≢true (sym parts.0 ∙ any_to (λ (r : Rule). index_of r == index_of rule) rules other d' (eq-eqb (index_of other) (index_of rule) (sym e ∙ ap index_of (sym is_one)))))
      ]
      | inr c' ↦ elim (here_or_later rule other rules d) [
        | inl is_other ↦ absurd (false≢true (sym parts.0 ∙ any_to (λ (r : Rule). index_of r == index_of rule) rules one c' (eq-eqb (index_of one) (index_of rule) (e ∙ ap index_of (sym is_other)))))
        | inr d' ↦ one_rule rules one other parts.1 c' d' e
      ]
    ]
