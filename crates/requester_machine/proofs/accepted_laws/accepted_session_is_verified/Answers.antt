use Rattle.requester_machine.proofs.Accepted.{accepted_session}
use Rattle.requester_machine.proofs.accepted_laws.accepted_session_is_verified.Goals as goal

pub returns : goal.returns
returns c = accepted_session
