use Rattle.std.proofs.Common.{◌≤◌, [], take}
use Rattle.spdm_basis.specs.Stream.{Takes}
use Rattle.packet_text.proofs.Numbered.{behind}
use Rattle.packet_text.specs.Following.{Follows}
use Rattle.packet_text.specs.Styles.{written_from}
use Rattle.packet_text.proofs.writing.write_each.Given as goal

-- What is written of the packets so far was written, and it is kept of them.
abbrev pub invariant-loop-index : goal.invariant-loop-index
invariant-loop-index g l = record {
  written : Takes (g.K.Sink.contents l.fn.sink) (written_from l.style l.config [] (take l.index l.packets)) (g.K.Sink.contents l.sink);
  follows : Follows l.following l.config (behind [] (take l.index l.packets));
  later : g.K.Sink.faults l.fn.sink ≤ g.K.Sink.faults l.sink;
}
