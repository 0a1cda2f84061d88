-- When a record is trusted. This project's own.
use Rattle.std.specs.Prelude.{◌≡◌, ◌≢◌, ◌↔◌, ℕ, List}
use Rattle.std.specs.List.{AllPairs, Contains}
use Rattle.script_text.specs.PolicyText.{index_of}
use Rattle.script_text.specs.declared.texts.rule.Rule.{Rule}
use Rattle.script_text.specs.declared.texts.rule.Rule.TheVariants.{Expect, Skip}
use Rattle.appraise.specs.Records.{Measured, IsRecordOf}

-- A rule lets the block of this index be anything.
abbrev pub IsSkipped : List Rule → ℕ → Type 0
IsSkipped rules index = Contains rules (Skip index)

-- A rule expects this very block.
abbrev pub IsExpected : List Rule → Measured → Type 0
IsExpected rules block = Contains rules (Expect block.index block.value_type block.value)

-- Some rule speaks of this index.
abbrev pub HasRule : List Rule → ℕ → Type 0
HasRule rules index = (rule : Rule) × Contains rules rule × (index_of rule ≡ index)

-- A list of bytes is trusted under rules where it is whole blocks, one after the other, with different indices, of which
-- each has a rule, and where the blocks without the skipped ones are as a set exactly those that the rules expect.
pub record IsTrusted (rules : List Rule) (bytes : List ℕ) : Type 0 where
  pub blocks : List Measured
  pub whole : IsRecordOf blocks bytes
  pub apart : AllPairs (λ (one : Measured) (other : Measured). one.index ≢ other.index) blocks
  pub ruled : (block : Measured) → Contains blocks block → HasRule rules block.index
  pub same : (block : Measured) → (Contains blocks block × (IsSkipped rules block.index → ⊥)) ↔ IsExpected rules block
