use Rattle.requester_machine.proofs.Responses.{update_all}
use Rattle.requester_machine.proofs.update_all_begins_anew.Goals as goal

pub returns : goal.returns
returns c = update_all
