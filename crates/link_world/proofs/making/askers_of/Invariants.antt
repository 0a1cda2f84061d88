use Rattle.std.proofs.Common.{◌≡◌, map, take}
use Rattle.link_world.proofs.making.askers_of.Given as goal
use Rattle.script_ends.specs.Configured.{requester_in}
use Rattle.link_world.specs.Configured.{HaveNoFault}
use Rattle.link_world.specs.Standing.{AreAskers}
use Rattle.requester_machine.specs.Requesting.{new_requesting}
use Rattle.world_machine.specs.Setup.{ends_from}

abbrev pub invariant-loop-q : goal.invariant-loop-q
invariant-loop-q l = record {
  number : l.number ≡ l.q-index;
  all : AreAskers l.askers.items (map new_requesting (ends_from 1 l.seed l.boot (map (requester_in l.responder.number) (take l.q-index l.requesters))));
  sound : HaveNoFault l.responder.number (take l.q-index l.requesters);
}
