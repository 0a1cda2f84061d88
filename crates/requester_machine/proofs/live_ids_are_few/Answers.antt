use Rattle.requester_machine.proofs.Ids.{few}
use Rattle.requester_machine.proofs.live_ids_are_few.Goals as goal

pub returns : goal.returns
returns c = few
