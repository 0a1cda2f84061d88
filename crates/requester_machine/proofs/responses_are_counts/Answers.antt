use Rattle.requester_machine.proofs.MadeOrder.{response_numbers}
use Rattle.requester_machine.proofs.responses_are_counts.Goals as goal

pub returns : goal.returns
returns c = response_numbers
