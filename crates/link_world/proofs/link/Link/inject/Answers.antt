use Rattle.link_world.proofs.Entered.{ok_through}
use Rattle.link_world.proofs.Stepped.{given_steps}
use Rattle.world_machine.specs.World.{given}
use Rattle.link_world.proofs.link.Link.inject.Goals as goal

pub returns : goal.returns
returns c = λ w l.
    let done = ok_through c.give.result c.map_err.result c.in_ok-map_err.field-0 _ c.map_err.ensures.variant c.in_ok-map_err.was (c.give.ensures w l.ends) in
    given_steps w (given w c.args.bytes.now) c.args.text.now c.give.new.text c.send_packets.new.text c.give.new.out c.args.self.now _ c.send_packets.result l done c.send_packets.ensures
