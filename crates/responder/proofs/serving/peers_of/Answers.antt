use Rattle.std.proofs.Common.{◌≡◌, ◌+◌, ℕ, suc, List, map, take, arith, subst, sym, []}
use Rattle.responder.proofs.Making.{more_peers}
use Rattle.responder.proofs.serving.peers_of.Goals as goal
use Rattle.responder.specs.Peers.{StandsFor}
use Rattle.responder.specs.SetUp.{known_of}
use Rattle.responder.specs.Standing.{ArePeers}
use Rattle.responder.specs.declared.config.Known.{Known}
use Rattle.responder.specs.declared.peer.Peer.{Peer}
use Rattle.responder_machine.specs.Responding.{new_connection}

pub loop-known-preserved : goal.loop-known-preserved
loop-known-preserved c = λ p is.
    let i : ℕ = c.loop-known.known-index in
    let x : Peer = c.in_ok-new.field-0 in
    let known : List Known = c.args.config.now.known.now in
    let stands = subst (λ (k : Known). StandsFor x p [] (new_connection p (known_of k))) c.known-item.is (c.in_ok-new.ensures p is) in
    let more = more_peers p i c.loop-known.peers.items known x c.known-item.result c.loop-known-test.true (c.loop-known.invariant p is) stands in
    let next : suc i ≡ i + 1 = omega arith in
    subst (λ (n : ℕ). ArePeers c.push.new.self.items p [] (map (new_connection p) (map known_of (take n known)))) next
    (subst (λ (xs : List Peer). ArePeers xs p [] (map (new_connection p) (map known_of (take (suc i) known)))) (sym {A = List Peer} c.in-Ok-push.ensures.items) more)
