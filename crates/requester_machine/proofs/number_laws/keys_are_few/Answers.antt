use Rattle.requester_machine.proofs.FewKeys.{keys_few}
use Rattle.requester_machine.proofs.number_laws.keys_are_few.Goals as goal

pub returns : goal.returns
returns c = keys_few
