use Rattle.responder_machine.proofs.Independent.{given_alike}
use Rattle.responder_machine.proofs.end_laws.given_stands_alike.Goals as goal

pub returns : goal.returns
returns c = given_alike
