use Rattle.std.proofs.Common.{◌≡◌, take}
use Rattle.link_world.proofs.ends.Ends.live.Given as goal
use Rattle.link_world.specs.HeldOpen.{live_with}
use Rattle.link_world.specs.Standing.{AreEnds}
use Rattle.world_machine.specs.Totals.{over_requesters}
use Rattle.world_machine.specs.World.{World}

abbrev pub invariant-loop-asker : goal.invariant-loop-asker
invariant-loop-asker l = record {
  counted : (w : World) → AreEnds l.self w → l.live ≡ over_requesters (λ a. live_with a w.responder.connections) (take l.asker-index w.requesters);
}
