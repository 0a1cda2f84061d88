use Rattle.responder_machine.proofs.Opened.{numbers_few}
use Rattle.responder_machine.proofs.laws.numbers_are_few.Goals as goal

pub returns : goal.returns
returns c = numbers_few
