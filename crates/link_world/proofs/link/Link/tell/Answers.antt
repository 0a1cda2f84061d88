use Rattle.requester_core.specs.Joined.{command_of}
use Rattle.link_world.proofs.Entered.{ok_through}
use Rattle.link_world.proofs.Stepped.{given_steps}
use Rattle.world_machine.specs.World.{requester_of, told}
use Rattle.link_world.proofs.link.Link.tell.Goals as goal

pub returns : goal.returns
returns c = λ w l.
    let given = ok_through c.tell.result c.map_err.result c.in_ok-map_err.field-0 _ c.map_err.ensures.variant c.in_ok-map_err.was (c.tell.ensures w l.ends) in
    given_steps w (told w c.args.q (command_of c.args.command) (requester_of c.args.q w)) c.args.text.now c.tell.new.text c.send_packets.new.text c.tell.new.out c.args.self.now _ c.send_packets.result l given
    c.send_packets.ensures
