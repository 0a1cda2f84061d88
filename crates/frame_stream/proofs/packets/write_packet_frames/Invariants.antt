use Rattle.std.proofs.Common.{◌≤◌, take}
use Rattle.spdm_basis.specs.Stream.{Takes}
use Rattle.frame_stream.specs.Packets.{packet_frames}
use Rattle.frame_stream.proofs.packets.write_packet_frames.Given as goal

abbrev pub invariant-loop-index : goal.invariant-loop-index
invariant-loop-index g l = record {
  taken : Takes (g.K.Sink.contents l.fn.sink) (packet_frames (take l.index l.packets)) (g.K.Sink.contents l.sink);
  later : g.K.Sink.faults l.fn.sink ≤ g.K.Sink.faults l.sink;
}
