use Rattle.responder_machine.proofs.Updates.{update_begins}
use Rattle.responder_machine.proofs.laws.update_begins_at_zero.Goals as goal

pub returns : goal.returns
returns c = update_begins
