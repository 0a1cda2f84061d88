use Rattle.std.proofs.Common.{◌≡◌, map, take}
use Rattle.c_ends.specs.Setting.{block_in}
use Rattle.c_ends.proofs.responder_set_up.all_blocks.Given as goal

abbrev pub invariant-loop-one : goal.invariant-loop-one
invariant-loop-one l = record {
  same : l.made.items ≡ map block_in (take l.one-index l.blocks);
}
