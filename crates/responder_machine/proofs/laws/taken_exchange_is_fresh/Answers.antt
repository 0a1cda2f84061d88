use Rattle.responder_machine.proofs.Fresh.{taken_exchange}
use Rattle.responder_machine.proofs.laws.taken_exchange_is_fresh.Goals as goal

pub returns : goal.returns
returns c = taken_exchange
