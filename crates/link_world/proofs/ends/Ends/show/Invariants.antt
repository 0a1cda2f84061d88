use Rattle.std.proofs.Common.{◌≡◌, ◌≤◌, take}
use Rattle.link_world.proofs.ends.Ends.show.Given as goal
use Rattle.link_world.specs.Standing.{AreEnds}
use Rattle.link_world.specs.Written.{text_of}
use Rattle.spdm_basis.specs.Stream.{Takes}
use Rattle.world_machine.specs.World.{World, all_end_lines}

abbrev pub invariant-loop-asker : goal.invariant-loop-asker
invariant-loop-asker g l = record {
  taken : (w : World) → AreEnds l.self w → Takes (g.K.Sink.contents l.fn.sink) (text_of (all_end_lines w.responder 1 (take l.asker-index w.requesters))) (g.K.Sink.contents l.sink);
  number : (w : World) → AreEnds l.self w → l.q ≡ l.asker-index;
  later : g.K.Sink.faults l.fn.sink ≤ g.K.Sink.faults l.sink;
}
