use Rattle.requester_machine.proofs.Choosing.{command_allowed}
use Rattle.requester_machine.proofs.command_is_allowed.Goals as goal

pub returns : goal.returns
returns c = command_allowed
