use Rattle.requester_machine.proofs.HoldsMade.{under_negotiation}
use Rattle.requester_machine.proofs.under_way_laws.live_is_under_negotiation.Goals as goal

pub returns : goal.returns
returns c = under_negotiation
