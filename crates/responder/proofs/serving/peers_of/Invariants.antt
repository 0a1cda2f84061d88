use Rattle.std.proofs.Common.{map, take}
use Rattle.responder.proofs.serving.peers_of.Given as goal
use Rattle.responder.specs.SetUp.{IsPart, known_of}
use Rattle.responder.specs.Standing.{ArePeers}
use Rattle.responder_machine.specs.Responding.{new_connection}
use Rattle.responder_machine.specs.Setup.{RspPart}
use Rattle.std.proofs.Common.{[]}

-- those of the requesters so far
abbrev pub invariant-loop-known : goal.invariant-loop-known
invariant-loop-known l = (p : RspPart) → IsPart l.part p → ArePeers l.peers.items p [] (map (new_connection p) (map known_of (take l.known-index l.known-items)))
