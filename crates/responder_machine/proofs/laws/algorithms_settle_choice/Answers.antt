use Rattle.responder_machine.proofs.Settled.{choice_settled}
use Rattle.responder_machine.proofs.laws.algorithms_settle_choice.Goals as goal

pub returns : goal.returns
returns c = choice_settled
