use Rattle.std.proofs.Common.{rules, refl, ◌≤◌, ◌<◌, ◌^◌, ◌+◌, List, ℕ, subst, sym}
use Rattle.requester.proofs.Steps.{broken_step, counted, fresh_is, fresh_step, worn_is, worn_now}
use Rattle.requester.proofs.whole.Requester.on_packet.Goals as goal
use Rattle.requester.specs.Standing.{IsGiven}
use Rattle.requester.specs.declared.whole.Requester.{Requester}
use Rattle.requester_machine.specs.Requesting.{PacketStep}
use Rattle.spdm_grammar.specs.declared.told.event.Event.TheVariants as event
use Rattle.spdm_grammar.specs.declared.told.event.ReqIgnored.TheVariants as ignored

pub returns-then-self-ge-WEAR_LIMIT : goal.returns-then-self-ge-WEAR_LIMIT
returns-then-self-ge-WEAR_LIMIT c = λ a stands.
    let many : 2 ^ 40 ≤ c.args.self.now.taken = search rules in
    subst (λ (s : PacketStep). IsGiven s (event.Ignored ignored.Worn) c.clear.new.self c.args.self.now) (sym (worn_is a c.args.packet.now (worn_now c.args.self.now a stands many)))
    (record { event = refl; sent = c.clear.ensures; stands = stands })

pub returns-in-Ok : goal.returns-in-Ok
returns-in-Ok c = λ a stands.
    let packet : List ℕ = c.args.packet.now in
    let few : c.args.self.now.taken < 2 ^ 40 = search rules in
    let fresh = fresh_is c.args.self.now a stands few in
    subst (λ (s : PacketStep). IsGiven s c.on_view.result c.on_view.new.out c.on_view.new.self) (sym (fresh_step a packet fresh))
    (c.on_view.ensures a packet (sym c.in-Ok.ensures.parsed) c.clear.ensures (counted c.args.self.now a stands fresh))

pub returns-in-Err : goal.returns-in-Err
returns-in-Err c = λ a stands.
    let packet : List ℕ = c.args.packet.now in
    let few : c.args.self.now.taken < 2 ^ 40 = search rules in
    let new : Requester = record c.args.self.now { taken = c.args.self.now.taken + 1 } in
    let fresh = fresh_is c.args.self.now a stands few in
    subst (λ (s : PacketStep). IsGiven s (event.Ignored (ignored.Packet c.in-Err.fault)) c.clear.new.self new) (sym (fresh_step a packet fresh))
    (broken_step a packet c.in-Err.fault c.clear.new.self new (counted c.args.self.now a stands fresh) c.clear.ensures (sym c.in-Err.ensures.parsed))
