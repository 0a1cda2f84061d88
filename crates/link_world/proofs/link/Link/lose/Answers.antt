use Rattle.std.proofs.Common.{refl, ◌≡◌, ◌∙◌, ℕ, List, Option, None, sym, subst}
use Rattle.link_world.proofs.Stepped.{line_steps, lost_steps, nowhere, nowhere_steps}
use Rattle.link_world.proofs.Stopping.{packet_stopped}
use Rattle.link_world.specs.Standing.{IsStepped}
use Rattle.link_world.specs.declared.link.Link.{Link}
use Rattle.world_machine.specs.World.{loses, packet_of}
use Rattle.link_world.proofs.link.Link.lose.Goals as goal

pub returns-in-Some : goal.returns-in-Some
returns-in-Some c = λ w l.
    let n = c.args.number in
    lost_steps w n _ c.args.text.now c.args.self.now (record c.args.self.now { sent = c.stop.new.self }) l refl c.stop.ensures
    (c.in-Some.ensures ∙ packet_stopped w n c.args.self.now c.stop.new.self l c.stop.ensures)

pub returns-in-None : goal.returns-in-None
returns-in-None c = λ w l.
    let n = c.args.number in
    let seen : Link = record c.args.self.now { sent = c.stop.new.self } in
    let none : packet_of n w.sent ≡ None = sym (packet_stopped w n c.args.self.now c.stop.new.self l c.stop.ensures) ∙ sym c.in-None.ensures in
    subst (λ (p : Option (List ℕ)). IsStepped (loses w n p) c.line_added.result c.args.text.now c.push_no_packet.new.text seen) (sym none)
    (line_steps (nowhere w n) c.push_no_packet.result c.line_added.result c.args.text.now c.push_no_packet.new.text seen _ c.line_added.ensures.same c.line_added.ensures.fault c.push_no_packet.ensures
    (nowhere_steps w n c.args.text.now c.push_no_packet.new.text c.args.self.now seen l refl c.stop.ensures none))
