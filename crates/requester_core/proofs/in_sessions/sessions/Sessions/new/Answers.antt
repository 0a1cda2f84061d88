use Rattle.requester_core.proofs.SessionsAsked.{four_empty, no_sessions}
use Rattle.requester_core.proofs.in_sessions.sessions.Sessions.new.Goals as goal

pub returns : goal.returns
returns c = λ q. no_sessions _ q
    (four_empty c.in_ok-first.first c.in_ok-second.second c.in_ok-third.third c.in_ok-fourth.fourth c.in_ok-first.ensures c.in_ok-second.ensures c.in_ok-third.ensures c.in_ok-fourth.ensures)
