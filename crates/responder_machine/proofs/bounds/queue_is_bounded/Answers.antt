use Rattle.responder_machine.proofs.Within.{queue_within}
use Rattle.responder_machine.proofs.bounds.queue_is_bounded.Goals as goal

pub returns : goal.returns
returns c = queue_within
