use Rattle.std.proofs.Common.{◌-◌}
use Rattle.link_world.proofs.Stepped.{IsMidway}
use Rattle.link_world.proofs.link.Link.pump.Given as goal
use Rattle.link_world.specs.Standing.{IsLink}
use Rattle.world_machine.specs.World.{World}

-- From each world that it stood for, so many turns were made.
abbrev pub invariant-loop-turn : goal.invariant-loop-turn
invariant-loop-turn l = record {
  midway : (w : World) → IsLink l.fn.self w → IsMidway l.count (l.count - l.turn) w l.fn.text l.text l.self;
}
