use Rattle.std.proofs.Common.{rules, refl, ◌≡◌, ◌∙◌, ℕ, List, length, subst}
use Rattle.std.proofs.lemmas.List.{length-set}
use Rattle.std.proofs.lemmas.List.Elements.{AllWithin-more_set, AllWithin-none}
use Rattle.std.specs.List.{AllWithin}
use Rattle.responder.proofs.serving.Responder.wipe.Goals as goal
use Rattle.responder.specs.Wiped.{IsWipedPeer}
use Rattle.responder.specs.declared.peer.Peer.{Peer}

pub loop-place-init : goal.loop-place-init
loop-place-init c = (c.wipe.ensures, refl, AllWithin-none IsWipedPeer c.args.self.now.peers.items 0)

pub loop-place-preserved : goal.loop-place-preserved
loop-place-preserved c =
    let inv = c.loop-place.invariant in
    let items : List Peer = c.loop-place.self.peers.items in
    let i : ℕ = c.loop-place.place in
    let item = c.in-Some.ensures.item in (
      inv.0,
      length-set items i c.wipe-in-Some.new.self ∙ inv.1,
      AllWithin-more_set items i c.wipe-in-Some.new.self item.3.0 IsWipedPeer inv.2 c.wipe-in-Some.ensures,
    )

pub returns : goal.returns
returns c =
    let inv = c.loop-place.invariant in
    let items : List Peer = c.loop-place.self.peers.items in
    let at : c.loop-place.place ≡ length items = search rules in record {
      shared = inv.0;
      peers = subst (λ (n : ℕ). AllWithin IsWipedPeer items 0 n) at inv.2;
    }
