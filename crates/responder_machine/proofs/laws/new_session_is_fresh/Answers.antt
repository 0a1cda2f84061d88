use Rattle.responder_machine.proofs.Fresh.{new_session}
use Rattle.responder_machine.proofs.laws.new_session_is_fresh.Goals as goal

pub returns : goal.returns
returns c = new_session
