use Rattle.std.proofs.Common.{◌≤◌}
use Rattle.link_world.specs.Worlds.{StandsFor}
use Rattle.script_run.proofs.Going.{Went}
use Rattle.script_run.proofs.events.run_events.Given as goal
use Rattle.world_machine.specs.World.{World}

-- From each world that it stood for, the events so far happened.
abbrev pub invariant-loop-entry : goal.invariant-loop-entry
invariant-loop-entry g l = record {
  went : (w : World) → StandsFor l.fn.world w → Went w l.events l.entry-index (g.K.Sink.contents l.fn.sink) (g.K.Sink.contents l.sink) l.world;
  later : g.K.Sink.faults l.fn.sink ≤ g.K.Sink.faults l.sink;
}
