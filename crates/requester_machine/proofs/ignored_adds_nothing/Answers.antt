use Rattle.requester_machine.proofs.Adding.{ignored}
use Rattle.requester_machine.proofs.ignored_adds_nothing.Goals as goal

pub returns : goal.returns
returns c = ignored
