use Rattle.std.proofs.Common.{◌≤◌}
use Rattle.spdm_basis.specs.Stream.{Takes}
use Rattle.trace_check.proofs.EntriesBefore.{entries_before}
use Rattle.trace_check.proofs.writing.write_entries.Given as goal

-- The lines of the entries so far were written.
abbrev pub invariant-loop-seen : goal.invariant-loop-seen
invariant-loop-seen g l = record {
  written : Takes (g.K.Sink.contents l.fn.sink) (entries_before l.entries l.seen-index) (g.K.Sink.contents l.sink);
  later : g.K.Sink.faults l.fn.sink ≤ g.K.Sink.faults l.sink;
}
