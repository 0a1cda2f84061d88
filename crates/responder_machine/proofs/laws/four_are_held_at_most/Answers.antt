use Rattle.responder_machine.proofs.Ids.{four_held}
use Rattle.responder_machine.proofs.laws.four_are_held_at_most.Goals as goal

pub returns : goal.returns
returns c = four_held
