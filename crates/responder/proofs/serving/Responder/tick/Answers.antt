use Rattle.std.proofs.Common.{rules, refl, ◌≡◌, ◌∙◌, ◌+◌, ℕ, suc, List, length, arith, subst, sym}
use Rattle.std.proofs.lemmas.List.{length-set}
use Rattle.responder.proofs.Waiting.{tick_all, tick_more, ticked, ticked_none, ticks_stand}
use Rattle.responder.proofs.serving.Responder.tick.Goals as goal
use Rattle.responder.specs.Peers as peers
use Rattle.responder.specs.Standing.{ArePeers}
use Rattle.responder.specs.declared.peer.Peer.{Peer}
use Rattle.responder_machine.specs.Responding.{Connection}
use Rattle.spdm_machine.specs.Packets.{fields_in}
use Rattle.std.specs.Prelude.{slice_set}

pub loop-place-init : goal.loop-place-init
loop-place-init c = (
  refl,
  refl,
  refl,
  refl,
  λ r stands. subst (λ (cs : List Connection). ArePeers c.args.self.now.peers.items r.part (fields_in r.given) cs) (sym (ticked_none c.args.seconds r.connections)) stands.peers,
)

pub loop-place-preserved : goal.loop-place-preserved
loop-place-preserved c =
    let inv = c.loop-place.invariant in
    let items : List Peer = c.loop-place.self.peers.items in
    let i : ℕ = c.loop-place.place in
    let item = c.in-Some.ensures.item in
    let seen : Peer = c.in-Some.peer.now in
    let more : suc i ≡ i + 1 = omega arith in (
      inv.0,
      inv.1,
      inv.2,
      length-set items i c.tick.new.self ∙ inv.3,
      λ r stands. subst (λ (n : ℕ). ArePeers (slice_set items i c.tick.new.self) r.part (fields_in r.given) (ticked c.args.seconds n r.connections)) more
          (tick_more r.part (fields_in r.given) c.args.seconds i items r.connections seen c.tick.new.self item.3.0 (inv.4 r stands)
          (λ k own. c.tick.ensures r.part (fields_in r.given) k (subst (λ (x : Peer). peers.StandsFor x r.part (fields_in r.given) k) (sym (item.3.1 seen)) own))),
    )

pub returns : goal.returns
returns c = λ r stands.
    let inv = c.loop-place.invariant in
    let items : List Peer = c.loop-place.self.peers.items in
    let at : c.loop-place.place ≡ length items = search rules in
    ticks_stand r c.args.seconds c.args.self.now c.loop-place.self stands (record { part = inv.0; given = inv.1; shared = inv.2 })
    (tick_all r.part (fields_in r.given) c.args.seconds items r.connections
    (subst (λ (n : ℕ). ArePeers items r.part (fields_in r.given) (ticked c.args.seconds n r.connections)) at (inv.4 r stands)))
