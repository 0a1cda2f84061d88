use Rattle.requester_machine.proofs.Numbers.{update}
use Rattle.requester_machine.proofs.update_begins_anew.Goals as goal

pub returns : goal.returns
returns c = update
