-- Measurement blocks and how they are found (DSP0274, "Measurement block format" and "DMTF measurement specification format").
use Rattle.std.specs.Prelude.{ℕ, zero, suc, ◌+◌, ◌==◌, if◌then◌else◌, List, [], ◌∷◌, ◌++◌, length, Option, Some, None}
use Rattle.byteorder.specs.Endian.{little_bytes}
use Rattle.spdm_grammar.specs.declared.told.block_spec.BlockSpec.{BlockSpec}

-- The seven bytes before a value: the index, the DMTF specification (bit 0), the size of what follows, the type of the
-- value and its size.
abbrev pub block_head : BlockSpec → List ℕ
block_head block = (block.index ∷ 1 ∷ []) ++ little_bytes 2 (3 + length block.value) ++ (block.value_type ∷ []) ++ little_bytes 2 (length block.value)

-- A whole block.
abbrev pub block_bytes : BlockSpec → List ℕ
block_bytes block = block_head block ++ block.value

-- Blocks one after the other.
abbrev pub record_of : List BlockSpec → List ℕ
record_of [] = []
record_of (block ∷ others) = block_bytes block ++ record_of others

-- How many bytes they have together.
abbrev pub record_len : List BlockSpec → ℕ
record_len [] = 0
record_len (block ∷ others) = 7 + length block.value + record_len others

-- The block of an index, if there is one: the first that has it.
abbrev pub block_of : ℕ → List BlockSpec → Option BlockSpec
block_of index [] = None
block_of index (block ∷ others) = if block.index == index then Some block else block_of index others

-- A block, if there is one, as a list.
abbrev pub at_most_one : Option BlockSpec → List BlockSpec
at_most_one None = []
at_most_one (Some block) = block ∷ []

-- The blocks of the indices from 1 up to this one, by rising index.
unfoldable pub up_to : ℕ → List BlockSpec → List BlockSpec
up_to zero blocks = []
up_to (suc index) blocks = up_to index blocks ++ at_most_one (block_of (index + 1) blocks)

-- The blocks of the indices from 1 to 254, by rising index, in whatever order they came.
abbrev pub by_index : List BlockSpec → List BlockSpec
by_index blocks = up_to 254 blocks
