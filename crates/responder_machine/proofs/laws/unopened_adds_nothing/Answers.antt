use Rattle.responder_machine.proofs.Repeats.{unopened}
use Rattle.responder_machine.proofs.laws.unopened_adds_nothing.Goals as goal

pub returns : goal.returns
returns c = unopened
