-- Which answer holds of a record under rules. This project's own.
use Rattle.std.specs.Prelude.{◌≡◌, ◌<◌, ◌&&◌, ◌++◌, ℕ, Bool, true, false, not, if◌then◌else◌, List, ◌∷◌, Option, Some, None}
use Rattle.script_text.specs.PolicyText.{has_index}
use Rattle.script_text.specs.declared.texts.rule.Rule.{Rule}
use Rattle.appraise.specs.declared.appraisal.Appraisal.{Appraisal}
use Rattle.appraise.specs.declared.appraisal.Appraisal.TheVariants.{Trusted, Malformed, Repeated, Unknown, Differs, Missing}
use Rattle.appraise.specs.Records.{Measured, IsRecordOf, IsMalformedAt, has_block}
use Rattle.appraise.specs.Policies.{expects, expects_other}
use Rattle.appraise.specs.Trusted.{IsTrusted}

-- The first of these in order that holds of a block behind the earlier ones: an earlier block has its index, no rule has
-- it, or its rule expects another type or value.
abbrev pub fault_of : List Rule → List Measured → Measured → Option Appraisal
fault_of rules earlier block =
    if has_block block.index earlier then Some (Repeated block.index)
    else (if not (has_index block.index rules) then Some (Unknown block.index)
    else (if expects_other block rules then Some (Differs block.index)
    else None))

-- None of the blocks has a fault behind those before it.
abbrev pub HasNoFault : List Rule → List Measured → Type 0
HasNoFault rules blocks =
    (earlier : List Measured) (block : Measured) (later : List Measured) → blocks ≡ earlier ++ block ∷ later
    → fault_of rules earlier block ≡ None

-- The bytes are whole blocks, and the first of them that has a fault has this one.
pub record IsFirstFault (rules : List Rule) (bytes : List ℕ) (fault : Appraisal) : Type 0 where
  pub earlier : List Measured
  pub block : Measured
  pub later : List Measured
  pub whole : IsRecordOf (earlier ++ block ∷ later) bytes
  pub before : HasNoFault rules earlier
  pub here : fault_of rules earlier block ≡ Some fault

-- A rule expects a block of this index, and none of the blocks has it.
abbrev pub is_missing : List Rule → List Measured → ℕ → Bool
is_missing rules blocks index = expects index rules && not (has_block index blocks)

-- This is the least index that is missing.
abbrev pub IsLeastMissing : List Rule → List Measured → ℕ → Type 0
IsLeastMissing rules blocks index =
    (is_missing rules blocks index ≡ true) × ((lower : ℕ) → lower < index → is_missing rules blocks lower ≡ false)

-- The bytes are whole blocks of which none has a fault, and this is the least index that is missing.
pub record IsFirstMissing (rules : List Rule) (bytes : List ℕ) (index : ℕ) : Type 0 where
  pub blocks : List Measured
  pub whole : IsRecordOf blocks bytes
  pub fine : HasNoFault rules blocks
  pub least : IsLeastMissing rules blocks index

-- The answer holds of the bytes under the rules.
abbrev pub IsAppraisal : List Rule → List ℕ → Appraisal → Type 0
IsAppraisal rules bytes Trusted = IsTrusted rules bytes
IsAppraisal rules bytes (Malformed at) = IsMalformedAt at bytes
IsAppraisal rules bytes (Repeated index) = IsFirstFault rules bytes (Repeated index)
IsAppraisal rules bytes (Unknown index) = IsFirstFault rules bytes (Unknown index)
IsAppraisal rules bytes (Differs index) = IsFirstFault rules bytes (Differs index)
IsAppraisal rules bytes (Missing index) = IsFirstMissing rules bytes index

-- One answer holds, and no other does.
abbrev pub IsTheAppraisal : List Rule → List ℕ → Appraisal → Type 0
IsTheAppraisal rules bytes answer =
    IsAppraisal rules bytes answer × ((other : Appraisal) → IsAppraisal rules bytes other → other ≡ answer)
