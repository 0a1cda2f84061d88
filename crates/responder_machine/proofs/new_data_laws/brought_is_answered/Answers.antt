use Rattle.responder_machine.proofs.Brought.{brought_answered}
use Rattle.responder_machine.proofs.new_data_laws.brought_is_answered.Goals as goal

pub returns : goal.returns
returns c = brought_answered
