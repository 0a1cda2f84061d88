use Rattle.responder_machine.proofs.Repeats.{taken}
use Rattle.responder_machine.proofs.laws.taken_is_repeated.Goals as goal

pub returns : goal.returns
returns c = taken
