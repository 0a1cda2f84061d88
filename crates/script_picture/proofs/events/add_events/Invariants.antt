use Rattle.std.proofs.Common.{◌≤◌, length}
use Rattle.link_world.specs.Worlds.{StandsFor}
use Rattle.script_picture.proofs.Going.{Went}
use Rattle.script_picture.specs.Drawn.{most_rows}
use Rattle.script_picture.proofs.events.add_events.Given as goal
use Rattle.world_machine.specs.World.{World}

-- From each world that it stood for, the events so far happened, and these are their rows.
abbrev pub invariant-loop-entry : goal.invariant-loop-entry
invariant-loop-entry l = record {
  went : (w : World) → StandsFor l.fn.world w → Went l.config l.events w l.events l.entry-index l.rows l.world;
  few : length l.rows ≤ most_rows;
}
