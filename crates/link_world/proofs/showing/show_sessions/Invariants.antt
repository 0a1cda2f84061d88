use Rattle.std.proofs.Common.{◌≤◌, take}
use Rattle.link_world.proofs.showing.show_sessions.Given as goal
use Rattle.link_world.specs.Written.{text_of}
use Rattle.trace_text.specs.Whose.{whose_of}
use Rattle.spdm_basis.specs.Stream.{Takes}
use Rattle.world_machine.specs.World.{session_lines}

abbrev pub invariant-loop-view : goal.invariant-loop-view
invariant-loop-view g l = record {
  taken : Takes (g.K.Sink.contents l.fn.sink) (text_of (session_lines (whose_of l.q l.responder) (take l.view-index l.views))) (g.K.Sink.contents l.sink);
  later : g.K.Sink.faults l.fn.sink ≤ g.K.Sink.faults l.sink;
}
