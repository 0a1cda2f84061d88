use Rattle.responder_machine.proofs.Does.{chosen_allowed}
use Rattle.responder_machine.proofs.laws.chosen_is_allowed.Goals as goal

pub returns : goal.returns
returns c = chosen_allowed
