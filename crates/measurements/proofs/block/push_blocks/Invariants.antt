use Rattle.std.proofs.Common.{◌≡◌, ◌+◌, ◌≤◌, ◌++◌, length, drop}
use Rattle.measurements.specs.Blocks.{record_of, record_len}
use Rattle.measurements.proofs.block.push_blocks.Given as goal

abbrev pub invariant-loop-block : goal.invariant-loop-block
invariant-loop-block l = record {
  made : l.out ++ record_of (drop l.block-index l.blocks) ≡ l.fn.out ++ record_of l.blocks;
  room : length l.out + record_len (drop l.block-index l.blocks) ≤ 4054;
}
