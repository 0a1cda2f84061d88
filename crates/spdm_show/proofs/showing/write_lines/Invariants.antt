use Rattle.std.proofs.Common.{◌≤◌}
use Rattle.spdm_basis.specs.Stream.{Takes}
use Rattle.spdm_show.proofs.LinesBefore.{lines_before}
use Rattle.spdm_show.proofs.showing.write_lines.Given as goal

-- The lines of the messages so far were written.
abbrev pub invariant-loop-message : goal.invariant-loop-message
invariant-loop-message g l = record {
  written : Takes (g.K.Sink.contents l.fn.sink) (lines_before l.shown l.message-index) (g.K.Sink.contents l.sink);
  later : g.K.Sink.faults l.fn.sink ≤ g.K.Sink.faults l.sink;
}
