use Rattle.responder_machine.proofs.Repeats.{repeat}
use Rattle.responder_machine.proofs.laws.repeat_adds_nothing.Goals as goal

pub returns : goal.returns
returns c = repeat
