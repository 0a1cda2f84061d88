-- What GET_MEASUREMENTS asks for (DSP0274, "GET_MEASUREMENTS request message format": measurement operation).
use Rattle.std.specs.Prelude.{ℕ, Bool, ◌==◌, ◌&&◌, ◌||◌, not, is_none, if◌then◌else◌, List, []}
use Rattle.spdm_grammar.specs.declared.told.block_spec.BlockSpec.{BlockSpec}
use Rattle.measurements.specs.Blocks.{block_of, at_most_one}

-- The blocks of an operation: none for 0, which asks for their number, all for 255, and the block of the index for 1 to 254.
abbrev pub asked : ℕ → List BlockSpec → List BlockSpec
asked op blocks = if op == 0 then [] else (if op == 255 then blocks else at_most_one (block_of op blocks))

-- An operation asks for one block and there is none of that index.
abbrev pub is_missing : ℕ → List BlockSpec → Bool
is_missing op blocks = not (op == 0 || op == 255) && is_none (block_of op blocks)
