use Rattle.std.proofs.Common.{◌-◌, ◌≤◌, length, take}
use Rattle.spdm_basis.specs.Stream.{Takes}
use Rattle.spdm_basis.proofs.streams.transfer.write_all.Given as goal

abbrev pub invariant-loop-done : goal.invariant-loop-done
invariant-loop-done g l = record {
  taken : Takes (g.K.Sink.contents l.fn.sink) (take l.done l.text) (g.K.Sink.contents l.sink);
  later : g.K.Sink.faults l.fn.sink ≤ g.K.Sink.faults l.sink;
  within : l.done ≤ length l.text;
}

abbrev pub decreases-loop-done : goal.decreases-loop-done
decreases-loop-done g l = length l.text - l.done
