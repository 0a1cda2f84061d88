use Rattle.std.proofs.Common.{refl, ◌≡◌, ◌∙◌, ◌+◌, ℕ, List, Bool, ap, sym, subst, arith}
use Rattle.std.proofs.lemmas.Option.{same_Some}
use Rattle.std.proofs.lemmas.Result.{on_ok_weaker}
use Rattle.link_world.proofs.Askers.{eid_of, ends_hit, few_places}
use Rattle.link_world.proofs.GivenTo.{asker_given_at}
use Rattle.link_world.specs.Standing.{counted}
use Rattle.link_world.specs.declared.ends.AddressedRequester.{AddressedRequester}
use Rattle.requester.specs.Standing as asking
use Rattle.requester_machine.specs.Requesting.{requester_given}
use Rattle.spdm_machine.specs.Sessions.{one_if}
use Rattle.world_machine.specs.World.{number_at}
use Rattle.link_world.proofs.ends.Ends.give_requester.Goals as goal

pub returns : goal.returns
returns c = λ w a e is.
    let ends = c.args.self.now in
    let k = c.args.place in
    let packet : List ℕ = c.args.packet.now in
    let item = c.in-Some.ensures.item in
    let h = ends_hit w ends k e item.3.0 in
    let seen : c.in-Some.asker.now ≡ h.seen = item.3.1 h.seen ∙ h.there h.seen in
    let same : h.a ≡ a = same_Some h.a a (sym h.at ∙ is) in
    let step = c.on_packet-event.ensures h.a (subst (λ (x : AddressedRequester). asking.StandsFor x.requester h.a) (sym seen) h.stands.stands) in
    let number : c.number_of_place.result ≡ number_at (eid_of h.a) w =
    c.number_of_place.ensures (few_places k ends w e item.3.0) ∙ omega arith ∙ sym (h.number 1) in
    let asker : AddressedRequester = record { eid = c.in-Some.asker.now.eid; requester = c.on_packet-event.new.self } in
    on_ok_weaker c.push_event.result (asker_given_at w k ends _ asker e h (record { items = refl; eid = refl; responder = refl }) (ap (λ (x : AddressedRequester). x.eid) seen) a same c.number_of_place.result number packet
    c.on_packet-event.result c.last_data.result.now c.on_packet-event.new.out c.args.text.now c.push_event.new.text step (c.last_data.ensures (requester_given h.a packet).after step.stands)
    (c.with_one-self.ensures ∙ ap (λ (b : Bool). counted (ends.taken + one_if b)) c.is_answered.ensures))
    c.push_event.ensures
