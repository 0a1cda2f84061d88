use Rattle.responder_core.proofs.Waiting.{dropped}
use Rattle.responder_core.proofs.in_sessions.sessions.Sessions.expire.Goals as goal

pub returns : goal.returns
returns c = λ r h stands. dropped r h c.args.id c.args.self.now c.empty.new.self stands c.empty.ensures.own c.empty.ensures.others c.empty.ensures.ended
