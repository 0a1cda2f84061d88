use Rattle.requester_machine.proofs.HoldsMade.{session_sizes}
use Rattle.requester_machine.proofs.under_way_laws.session_sizes_are_set_up.Goals as goal

pub returns : goal.returns
returns c = session_sizes
