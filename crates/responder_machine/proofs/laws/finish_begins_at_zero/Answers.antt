use Rattle.responder_machine.proofs.Updates.{finish_begins}
use Rattle.responder_machine.proofs.laws.finish_begins_at_zero.Goals as goal

pub returns : goal.returns
returns c = finish_begins
