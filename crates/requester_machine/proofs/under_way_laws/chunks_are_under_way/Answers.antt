use Rattle.requester_machine.proofs.HoldsMade.{under_way}
use Rattle.requester_machine.proofs.under_way_laws.chunks_are_under_way.Goals as goal

pub returns : goal.returns
returns c = under_way
