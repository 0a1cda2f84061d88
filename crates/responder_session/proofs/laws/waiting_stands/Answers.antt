use Rattle.responder_session.proofs.Waits.{waiting_stands}
use Rattle.responder_session.proofs.laws.waiting_stands.Goals as goal

pub returns : goal.returns
returns c = waiting_stands
