use Rattle.requester_machine.proofs.MadeOrder.{numbers}
use Rattle.requester_machine.proofs.numbers_are_counts.Goals as goal

pub returns : goal.returns
returns c = numbers
