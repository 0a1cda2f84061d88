use Rattle.requester_machine.proofs.Adding.{faulty}
use Rattle.requester_machine.proofs.fault_adds_nothing.Goals as goal

pub returns : goal.returns
returns c = faulty
