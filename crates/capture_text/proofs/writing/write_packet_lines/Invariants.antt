use Rattle.std.proofs.Common.{◌≤◌, take}
use Rattle.spdm_basis.specs.Stream.{Takes}
use Rattle.capture_text.specs.Written.{packet_lines}
use Rattle.capture_text.proofs.writing.write_packet_lines.Given as goal

-- The lines of the packets so far were written.
abbrev pub invariant-loop-index : goal.invariant-loop-index
invariant-loop-index g l = record {
  written : Takes (g.K.Sink.contents l.fn.sink) (packet_lines 1 (take l.index l.packets)) (g.K.Sink.contents l.sink);
  later : g.K.Sink.faults l.fn.sink ≤ g.K.Sink.faults l.sink;
}
