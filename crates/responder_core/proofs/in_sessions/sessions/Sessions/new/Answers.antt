use Rattle.responder_core.proofs.Recorded.{no_sessions_in}
use Rattle.responder_core.proofs.in_sessions.sessions.Sessions.new.Goals as goal

pub returns : goal.returns
returns c = λ r. no_sessions_in r c.in_ok-first.first c.in_ok-second.second c.in_ok-third.third c.in_ok-fourth.fourth c.in_ok-ended.ended
    c.in_ok-first.ensures c.in_ok-second.ensures c.in_ok-third.ensures c.in_ok-fourth.ensures c.in_ok-ended.ensures
