use Rattle.std.proofs.Common.{refl}
use Rattle.link_world.proofs.Stepped.{done_steps, line_steps}
use Rattle.world_machine.specs.World.{replied, requester_of}
use Rattle.link_world.specs.declared.link.Link.{Link}
use Rattle.link_world.proofs.link.Link.reply.Goals as goal

pub returns : goal.returns
returns c = λ w l.
    let step = replied w c.args.bytes.now (requester_of c.args.q w) in
    let seen : Link = record c.args.self.now { ends = c.reply.new.self } in
    line_steps step c.reply.result c.line_added.result c.args.text.now c.reply.new.text seen _ c.line_added.ensures.same c.line_added.ensures.fault (c.reply.ensures w l.ends)
    (λ d. done_steps w step c.args.text.now c.reply.new.text c.reply.new.self seen d refl l.sent l.within)
