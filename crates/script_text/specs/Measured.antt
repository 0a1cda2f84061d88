-- How much of a measurement record the blocks of a configuration take (DSP0274, "Measurement block format").
use Rattle.std.specs.Prelude.{ℕ, List, ◌+◌, length, sum_by}
use Rattle.spdm_grammar.specs.declared.told.block_spec.BlockSpec.{BlockSpec}

-- A block has seven bytes before its value: index, specification, size, value type and value size.
abbrev pub block_size : BlockSpec → ℕ
block_size block = 7 + length block.value

-- All blocks together.
abbrev pub sizes_of : List BlockSpec → ℕ
sizes_of blocks = sum_by block_size blocks
