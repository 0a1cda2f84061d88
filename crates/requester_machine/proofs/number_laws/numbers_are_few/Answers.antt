use Rattle.requester_machine.proofs.FewMade.{numbers_few}
use Rattle.requester_machine.proofs.number_laws.numbers_are_few.Goals as goal

pub returns : goal.returns
returns c = numbers_few
