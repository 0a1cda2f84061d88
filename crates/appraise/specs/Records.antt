-- Measurement blocks as a record tells them (DSP0274, "Measurement block format" and "DMTF measurement specification format").
use Rattle.std.specs.Prelude.{◌≡◌, ◌<◌, ◌+◌, ◌^◌, ◌==◌, ◌++◌, ℕ, Bool, false, List, map, length, take, drop}
use Rattle.std.specs.List.{AllByRecursion, list_any}
use Rattle.spdm_grammar.specs.declared.told.block_spec.BlockSpec.{BlockSpec}
use Rattle.measurements.specs.Blocks.{block_bytes, record_of}

-- A block: its index, the type of its value and the value. A record does not tell whether a block belongs to the trusted
-- computing base.
pub record Measured : Type 0 where
  pub index : ℕ
  pub value_type : ℕ
  pub value : List ℕ

-- A block of a responder that is told so.
abbrev pub spec_of : Measured → BlockSpec
spec_of block = record { index = block.index; value_type = block.value_type; tcb = false; value = block.value }

-- The size of what follows the fourth byte of a block has two bytes.
abbrev pub IsBlock : Measured → Type 0
IsBlock block = 3 + length block.value < 2 ^ 16

-- Blocks one after the other.
abbrev pub bytes_of : List Measured → List ℕ
bytes_of blocks = record_of (map spec_of blocks)

-- The bytes are these whole blocks, one after the other, and nothing more.
abbrev pub IsRecordOf : List Measured → List ℕ → Type 0
IsRecordOf blocks bytes = AllByRecursion IsBlock blocks × (bytes ≡ bytes_of blocks)

-- The bytes begin with this whole block, behind which these bytes are left.
abbrev pub IsFirstBlock : Measured → List ℕ → List ℕ → Type 0
IsFirstBlock block rest bytes = IsBlock block × (bytes ≡ block_bytes (spec_of block) ++ rest)

-- The bytes begin with a whole block.
abbrev pub BeginsWithBlock : List ℕ → Type 0
BeginsWithBlock bytes = (block : Measured) × (rest : List ℕ) × IsFirstBlock block rest bytes

-- There are bytes at this place and no whole block begins there, and whole blocks alone stand before it.
abbrev pub IsMalformedAt : ℕ → List ℕ → Type 0
IsMalformedAt at bytes =
    (at < length bytes) × (BeginsWithBlock (drop at bytes) → ⊥) × ((blocks : List Measured) × IsRecordOf blocks (take at bytes))

-- Some block has this index.
abbrev pub has_block : ℕ → List Measured → Bool
has_block index blocks = list_any (λ (block : Measured). block.index == index) blocks
