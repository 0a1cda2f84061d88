-- What is kept while a record is read from its front.
use Rattle.std.specs.Prelude.{◌≡◌, ◌<◌, ◌++◌, ℕ, Bool, false, List, [], ◌∷◌, Option, None, MatchOption, slice_index_or}
use Rattle.std.specs.List.{AllByRecursion}
use Rattle.std.specs.Option.{option_or}
use Rattle.script_text.specs.declared.texts.rule.Rule.{Rule}
use Rattle.appraise.specs.declared.appraisal.Appraisal.{Appraisal}
use Rattle.appraise.specs.Records.{Measured, IsBlock, bytes_of, has_block}
use Rattle.appraise.specs.Answers.{fault_of, is_missing, IsLeastMissing}

-- The table has, for each index, whether one of these blocks has it.
pub record StandsFor (table : List Bool) (blocks : List Measured) : Type 0 where
  pub at : (index : ℕ) → index < 256 → slice_index_or table index false ≡ has_block index blocks

-- The fault of the first block that has one behind the earlier ones and those before it.
abbrev pub first_fault_behind : List Rule → List Measured → List Measured → Option Appraisal
first_fault_behind rules earlier [] = None
first_fault_behind rules earlier (block ∷ later) =
    option_or (fault_of rules earlier block) (first_fault_behind rules (earlier ++ block ∷ []) later)

abbrev pub first_fault : List Rule → List Measured → Option Appraisal
first_fault rules blocks = first_fault_behind rules [] blocks

-- What is known once these blocks were read from the front of the bytes and the rest is left.
pub record IsRead (rules : List Rule) (bytes : List ℕ) (table : List Bool) (fault : Option Appraisal) (rest : List ℕ) : Type 0 where
  pub blocks : List Measured
  pub are_blocks : AllByRecursion IsBlock blocks
  pub bytes_are : bytes ≡ bytes_of blocks ++ rest
  pub seen : StandsFor table blocks
  pub fault_is : fault ≡ first_fault rules blocks

-- The answer where nothing stands behind the blocks and none has a fault.
abbrev pub IsMissingOrNone : List Rule → List Measured → Option ℕ → Type 0
IsMissingOrNone rules blocks missing =
    MatchOption missing ((index : ℕ) → is_missing rules blocks index ≡ false) (λ index. IsLeastMissing rules blocks index)
