use Rattle.responder_machine.proofs.Held.{held_few}
use Rattle.responder_machine.proofs.laws.held_are_few.Goals as goal

pub returns : goal.returns
returns c = held_few
