use Rattle.std.proofs.Common.{◌≡◌, ◌≤◌, ◌+◌, drop}
use Rattle.measurements.specs.Blocks.{record_len}
use Rattle.measurements.proofs.search.fit.Given as goal

abbrev pub invariant-loop-block : goal.invariant-loop-block
invariant-loop-block l = record {
  sum : l.len + record_len (drop l.block-index l.blocks) ≡ record_len l.blocks;
  within : l.len ≤ 4054;
}
