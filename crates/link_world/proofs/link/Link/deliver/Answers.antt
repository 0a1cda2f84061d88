use Rattle.std.proofs.Common.{refl, ◌≡◌, ◌∙◌, ℕ, List, Option, Some, None, sym, subst}
use Rattle.link_world.proofs.Entered.{ok_through}
use Rattle.link_world.proofs.Stepped.{given_steps, line_steps, nowhere, nowhere_steps}
use Rattle.link_world.proofs.Stopping.{packet_stopped, stopped_link}
use Rattle.link_world.specs.Standing.{IsStepped}
use Rattle.link_world.specs.declared.link.Link.{Link}
use Rattle.world_machine.specs.World.{delivers, given, packet_of, without_waiting}
use Rattle.link_world.proofs.link.Link.deliver.Goals as goal

pub returns-in_default : goal.returns-in_default
returns-in_default c = λ w l.
    let n = c.args.number in
    let seen : Link = record c.args.self.now { sent = c.stop.new.self } in
    let none : packet_of n w.sent ≡ None = sym (packet_stopped w n c.args.self.now c.stop.new.self l c.stop.ensures) ∙ sym c.in_default.ensures in
    subst (λ (p : Option (List ℕ)). IsStepped (delivers w n p) c.line_added.result c.args.text.now c.push_no_packet.new.text seen) (sym none)
    (line_steps (nowhere w n) c.push_no_packet.result c.line_added.result c.args.text.now c.push_no_packet.new.text seen _ c.line_added.ensures.same c.line_added.ensures.fault c.push_no_packet.ensures
    (nowhere_steps w n c.args.text.now c.push_no_packet.new.text c.args.self.now seen l refl c.stop.ensures none))

pub returns : goal.returns
returns c = λ w l.
    let n = c.args.number in
    let packet : List ℕ = c.in-Some.packet.now in
    let stopped : Link = record c.args.self.now { sent = c.stop.new.self } in
    let seen : Link = record { ends = c.give.new.self; sent = c.send_packets.new.sent; out = c.give.new.out } in
    let later = without_waiting n w in
    let link = stopped_link w n c.args.self.now stopped l refl c.stop.ensures in
    let some : packet_of n w.sent ≡ Some packet = sym (packet_stopped w n c.args.self.now c.stop.new.self l c.stop.ensures) ∙ sym c.in-Some.ensures in
    let done = ok_through c.give.result c.map_err.result c.in_ok-map_err.field-0 _ c.map_err.ensures.variant c.in_ok-map_err.was (c.give.ensures later link.ends) in
    subst (λ (p : Option (List ℕ)). IsStepped (delivers w n p) c.send_packets.result c.args.text.now c.send_packets.new.text seen) (sym some)
    (given_steps later (given later packet) c.args.text.now c.give.new.text c.send_packets.new.text c.give.new.out stopped seen c.send_packets.result link done c.send_packets.ensures)
