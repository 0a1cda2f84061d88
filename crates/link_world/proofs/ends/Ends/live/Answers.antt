use Rattle.std.proofs.Common.{◌≡◌, ◌∙◌, ◌+◌, ◌≤◌, ◌*◌, List, ap, sym, subst, take, length}
use Rattle.link_world.proofs.Held.{counted_more, with_most}
use Rattle.link_world.proofs.Shown.{all_there, is_there}
use Rattle.link_world.proofs.Sums.{over_more, over_most, paired}
use Rattle.link_world.specs.HeldOpen.{live_with}
use Rattle.link_world.specs.Standing.{AreAskers}
use Rattle.link_world.specs.declared.ends.AddressedRequester.{AddressedRequester}
use Rattle.requester_machine.specs.Requesting.{Requesting}
use Rattle.responder_machine.specs.Place.{held_of}
use Rattle.world_machine.specs.Totals.{asked_live, over_requesters}
use Rattle.link_world.proofs.ends.Ends.live.Goals as goal

pub loop-asker-preserved : goal.loop-asker-preserved
loop-asker-preserved c = record {
  counted = λ w s.
      let i = c.loop-asker.asker-index in
      let cs = w.responder.connections in
      let all = w.requesters in
      let count = λ (a : Requesting). live_with a cs in
      let are = subst (λ (xs : List AddressedRequester). AreAskers xs all) (sym c.as_slice-asker-items.ensures.value) s.requesters in
      let t = is_there i c.as_slice-asker-items.result.now all c.asker-item.result c.loop-asker-test.true c.asker-item.is are in
      let more : over_requesters count (take (i + 1) all) ≡ over_requesters count (take i all) + count t.a = over_more count i all t.a t.at in
      let most = subst (λ n. n ≤ 8 * length all) more (over_most count 8 (λ a. with_most a cs) (i + 1) all) in
      counted_more c.loop-asker.live c.held_with.result c.saturating_add-live.result (over_requesters count (take i all)) (length all) (count t.a) (c.loop-asker.invariant.counted w s)
      (c.held_with.ensures t.a w.responder t.stands s.responder) c.saturating_add-live.ensures most s.few
      ∙ sym more;
}

pub returns : goal.returns
returns c = λ w s.
    let i = c.loop-asker.asker-index in
    let cs = w.responder.connections in
    let are = subst (λ (xs : List AddressedRequester). AreAskers xs w.requesters) (sym c.as_slice-asker-items.ensures.value) s.requesters in
    c.loop-asker.invariant.counted w s
    ∙ ap (λ (l : List Requesting). over_requesters (λ a. live_with a cs) l) (all_there i c.as_slice-asker-items.result.now w.requesters are c.loop-asker-test.false)
    ∙ paired asked_live (λ d. held_of d.history) w.requesters cs s.peers s.apart
