use Rattle.requester_core.proofs.SessionsApart.{closed_stands}
use Rattle.requester_core.proofs.in_sessions.sessions.Sessions.close.Goals as goal

pub returns : goal.returns
returns c = λ q h f owner tag body d led adds closes stands. closed_stands q h f owner tag body d led adds c.args.self.now c.empty.new.self c.args.id closes stands c.empty.ensures.own c.empty.ensures.others c.empty.ensures.id
