-- Rules for measurements, and why rules make no policy. This project's own.
use Rattle.std.specs.Prelude.{◌≡◌, ◌==◌, ◌||◌, ◌&&◌, ℕ, Bool, false, not, nat_le, bytes_eq, if◌then◌else◌, List, [], ◌∷◌, Option, Some, None}
use Rattle.std.specs.List.{list_any}
use Rattle.spdm_grammar.specs.declared.names.TheConstants.{ALL_BLOCKS}
use Rattle.script_text.specs.PolicyText.{index_of, has_index}
use Rattle.script_text.specs.declared.texts.rule.Rule.{Rule}
use Rattle.script_text.specs.declared.texts.rule.Rule.TheVariants.{Expect, Skip}
use Rattle.appraise.specs.declared.policy_fault.PolicyFault.{PolicyFault}
use Rattle.appraise.specs.declared.policy_fault.PolicyFault.TheVariants.{IndexOutOfRange, IndexTaken, OutOfMemory}
use Rattle.appraise.specs.Records.{Measured}

-- An index names no block: 0, and 255, which asks for all blocks.
abbrev pub has_bad_index : List Rule → Bool
has_bad_index rules = list_any (λ (rule : Rule). index_of rule == 0 || nat_le ALL_BLOCKS (index_of rule)) rules

-- Two rules speak of one index.
abbrev pub has_twice : List Rule → Bool
has_twice [] = false
has_twice (rule ∷ others) = has_index (index_of rule) others || has_twice others

-- The first reason in this order why rules make no policy.
abbrev pub policy_fault : List Rule → Option PolicyFault
policy_fault rules =
    if has_bad_index rules then Some IndexOutOfRange
    else (if has_twice rules then Some IndexTaken
    else None)

-- The cause of a fault: allocation failure comes only where there is no other.
abbrev pub IsCause : List Rule → PolicyFault → Type 0
IsCause rules IndexOutOfRange = policy_fault rules ≡ Some IndexOutOfRange
IsCause rules IndexTaken = policy_fault rules ≡ Some IndexTaken
IsCause rules OutOfMemory = policy_fault rules ≡ None

-- The rule expects a block of this index.
abbrev pub is_expectation : ℕ → Rule → Bool
is_expectation index (Expect expected value_type value) = expected == index
is_expectation index (Skip skipped) = false

-- Some rule expects a block of this index.
abbrev pub expects : ℕ → List Rule → Bool
expects index rules = list_any (λ (rule : Rule). is_expectation index rule) rules

-- The rule is one for the block's index, and expects another type or another value.
abbrev pub is_unmet : Measured → Rule → Bool
is_unmet block (Expect index value_type value) =
    index == block.index && not (value_type == block.value_type && bytes_eq value block.value)
is_unmet block (Skip index) = false

-- Some rule for the block's index expects another type or another value.
abbrev pub expects_other : Measured → List Rule → Bool
expects_other block rules = list_any (λ (rule : Rule). is_unmet block rule) rules
