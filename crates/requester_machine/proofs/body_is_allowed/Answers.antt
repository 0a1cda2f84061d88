use Rattle.requester_machine.proofs.Choosing.{body_allowed}
use Rattle.requester_machine.proofs.body_is_allowed.Goals as goal

pub returns : goal.returns
returns c = body_allowed
