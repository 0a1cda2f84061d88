use Rattle.requester_machine.proofs.FewMade.{taken_number}
use Rattle.requester_machine.proofs.number_laws.taken_number_is_few.Goals as goal

pub returns : goal.returns
returns c = taken_number
