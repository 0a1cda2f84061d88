-- The summary of measurements (DSP0274, "PSK_EXCHANGE request message format": MeasurementSummaryHashType, and "MeasurementSummaryHash").
use Rattle.std.specs.Prelude.{ℕ, ◌==◌, ◌||◌, if◌then◌else◌, List, [], ◌∷◌, replicate, Option, Some, None}
use Rattle.std.specs.List.{filter}
use Rattle.spdm_grammar.specs.declared.told.block_spec.BlockSpec.{BlockSpec}
use Rattle.running_hash.specs.Hash.{Hash}
use Rattle.measurements.specs.Blocks.{record_of}

-- The blocks that a summary is about: those of the trusted computing base for kind 1, and all for kind 255.
abbrev pub summarized : ℕ → List BlockSpec → List BlockSpec
summarized kind blocks = filter (λ block. kind == 255 || block.tcb) blocks

-- The hash of blocks, each whole, and as many zero bytes where there are none.
abbrev pub hash_of_blocks : Hash → List BlockSpec → List ℕ
hash_of_blocks hash [] = replicate hash.size 0
hash_of_blocks hash (block ∷ others) = hash.digest (record_of (block ∷ others))

-- The summary of a kind by a hash function. There are two kinds, 1 and 255.
abbrev pub summary_of : Hash → ℕ → List BlockSpec → Option (List ℕ)
summary_of hash kind blocks = if kind == 1 || kind == 255 then Some (hash_of_blocks hash (summarized kind blocks)) else None
