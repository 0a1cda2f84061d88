use Rattle.requester_machine.specs.Session.{session_of}
use Rattle.requester_core.proofs.in_sessions.sessions.Sessions.told.Goals as goal

pub returns : goal.returns
returns c = λ q h stands. c.told_at.ensures q.psk (session_of c.args.id h) (stands.slots c.args.id)
