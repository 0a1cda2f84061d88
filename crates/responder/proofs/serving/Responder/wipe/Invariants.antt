use Rattle.std.proofs.Common.{◌≡◌, length}
use Rattle.std.specs.List.{AllWithin}
use Rattle.responder.proofs.serving.Responder.wipe.Given as goal
use Rattle.responder.specs.Wiped.{IsWipedPeer, IsWipedShared}

-- those so far are overwritten, and so is what they share
abbrev pub invariant-loop-place : goal.invariant-loop-place
invariant-loop-place l = IsWipedShared l.self.shared × (length l.self.peers.items ≡ length l.fn.self.peers.items) × AllWithin IsWipedPeer l.self.peers.items 0 l.place
