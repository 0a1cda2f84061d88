use Rattle.std.proofs.Common.{◌≡◌, length}
use Rattle.responder.proofs.Waiting.{ticked}
use Rattle.responder.proofs.serving.Responder.tick.Given as goal
use Rattle.responder.specs.Standing.{ArePeers, StandsFor}
use Rattle.responder_machine.specs.Responding.{Responding}
use Rattle.spdm_machine.specs.Packets.{fields_in}

-- seconds have passed for those so far, and nothing else has changed
abbrev pub invariant-loop-place : goal.invariant-loop-place
invariant-loop-place l =
    (l.self.part ≡ l.fn.self.part) × (l.self.given ≡ l.fn.self.given) × (l.self.shared ≡ l.fn.self.shared) × (length l.self.peers.items ≡ length l.fn.self.peers.items)
    × ((r : Responding) → StandsFor l.fn.self r → ArePeers l.self.peers.items r.part (fields_in r.given) (ticked l.fn.seconds l.place r.connections))
