use Rattle.std.proofs.Common.{◌≡◌, ◌≤◌, take, drop}
use Rattle.running_hash.specs.Holds.{Holds, function_of}
use Rattle.measurements.specs.Blocks.{record_of, record_len}
use Rattle.measurements.specs.Summaries.{summarized}
use Rattle.measurements.proofs.summary.hash_of_blocks.Given as goal

abbrev pub invariant-loop-block : goal.invariant-loop-block
invariant-loop-block l = record {
  function : function_of l.running ≡ l.hash;
  given : Holds l.running (record_of (summarized l.kind (take l.block-index l.blocks)));
  room : record_len (drop l.block-index l.blocks) ≤ 4054;
}
