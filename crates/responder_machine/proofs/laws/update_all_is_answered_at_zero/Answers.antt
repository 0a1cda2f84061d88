use Rattle.responder_machine.proofs.Updates.{all_answered}
use Rattle.responder_machine.proofs.laws.update_all_is_answered_at_zero.Goals as goal

pub returns : goal.returns
returns c = all_answered
