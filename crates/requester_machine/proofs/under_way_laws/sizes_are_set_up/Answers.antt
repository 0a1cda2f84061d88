use Rattle.requester_machine.proofs.HoldsMade.{sizes}
use Rattle.requester_machine.proofs.under_way_laws.sizes_are_set_up.Goals as goal

pub returns : goal.returns
returns c = sizes
