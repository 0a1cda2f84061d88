use Rattle.std.proofs.Common.{◌≡◌, drop}
use Rattle.measurements.specs.Blocks.{block_of}
use Rattle.measurements.proofs.search.block_of.Given as goal

abbrev pub invariant-loop-block : goal.invariant-loop-block
invariant-loop-block l = block_of l.index (drop l.block-index l.blocks) ≡ block_of l.index l.blocks
