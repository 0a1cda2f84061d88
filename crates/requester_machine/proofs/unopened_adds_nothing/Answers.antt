use Rattle.requester_machine.proofs.Adding.{unopened}
use Rattle.requester_machine.proofs.unopened_adds_nothing.Goals as goal

pub returns : goal.returns
returns c = unopened
