use Rattle.requester_machine.proofs.Heard.{accepted}
use Rattle.requester_machine.proofs.accepted_laws.accepted_is_verified.Goals as goal

pub returns : goal.returns
returns c = accepted
