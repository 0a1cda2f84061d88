use Rattle.responder_machine.proofs.Does.{does}
use Rattle.responder_machine.proofs.laws.does_what_it_may.Goals as goal

pub returns : goal.returns
returns c = does
