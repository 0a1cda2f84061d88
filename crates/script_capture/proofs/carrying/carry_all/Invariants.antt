use Rattle.std.proofs.Common.{◌≤◌, length}
use Rattle.link_world.specs.Worlds.{StandsFor}
use Rattle.script_capture.proofs.Going.{Went}
use Rattle.script_capture.specs.Written.{most_packets}
use Rattle.script_capture.proofs.carrying.carry_all.Given as goal
use Rattle.world_machine.specs.World.{World}

-- From each world that it stood for, the events so far happened, and their packets were carried.
abbrev pub invariant-loop-entry : goal.invariant-loop-entry
invariant-loop-entry l = record {
  went : (w : World) → StandsFor l.fn.world w → Went w l.events l.entry-index l.packets l.world;
  few : length l.packets ≤ most_packets;
}
