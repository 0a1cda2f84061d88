use Rattle.responder_machine.proofs.Alike.{decide}
use Rattle.responder_machine.proofs.end_laws.own_decide.Goals as goal

pub returns : goal.returns
returns c = decide
