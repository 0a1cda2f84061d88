use Rattle.std.proofs.Common.{◌-◌, ◌≤◌, length}
use Rattle.spdm_basis.specs.Stream.{Gives}
use Rattle.spdm_basis.proofs.streams.transfer.read_all.Given as goal

abbrev pub invariant-loop-bytes : goal.invariant-loop-bytes
invariant-loop-bytes g l = record {
  given : Gives (g.S.Source.remaining l.fn.source) l.bytes (g.S.Source.remaining l.source);
  later : g.S.Source.faults l.fn.source ≤ g.S.Source.faults l.source;
  within : length l.bytes ≤ l.limit;
}

abbrev pub decreases-loop-bytes : goal.decreases-loop-bytes
decreases-loop-bytes g l = l.limit - length l.bytes
