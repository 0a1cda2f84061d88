use Rattle.requester_machine.proofs.Adding.{retry}
use Rattle.requester_machine.proofs.retry_adds_nothing.Goals as goal

pub returns : goal.returns
returns c = retry
