use Rattle.requester_machine.proofs.MadeOrder.{in_order}
use Rattle.requester_machine.proofs.sessions_are_in_order.Goals as goal

pub returns : goal.returns
returns c = in_order
