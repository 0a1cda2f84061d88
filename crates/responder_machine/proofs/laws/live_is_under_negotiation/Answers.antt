use Rattle.responder_machine.proofs.Under.{live_under}
use Rattle.responder_machine.proofs.laws.live_is_under_negotiation.Goals as goal

pub returns : goal.returns
returns c = live_under
