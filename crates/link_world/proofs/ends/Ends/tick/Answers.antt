use Rattle.std.proofs.Common.{refl, ◌∙◌, ap, sym}
use Rattle.link_world.proofs.Changing.{responder_changed}
use Rattle.link_world.proofs.Counting.{ticked_peers, ticked_same}
use Rattle.link_world.specs.Standing.{counted}
use Rattle.responder_machine.specs.Responding.{ticks}
use Rattle.link_world.proofs.ends.Ends.tick.Goals as goal

pub returns : goal.returns
returns c = λ w e.
    responder_changed w c.args.self.now _ (ticks w.responder c.args.seconds) w.sent w.log e refl refl (c.tick.ensures w.responder e.responder) refl (ticked_peers w.responder c.args.seconds)
    (e.taken ∙ ap counted (sym (ticked_same w.responder c.args.seconds w.requesters)))
