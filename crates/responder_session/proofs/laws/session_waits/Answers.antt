use Rattle.responder_session.proofs.Waits.{session_waits}
use Rattle.responder_session.proofs.laws.session_waits.Goals as goal

pub returns : goal.returns
returns c = session_waits
