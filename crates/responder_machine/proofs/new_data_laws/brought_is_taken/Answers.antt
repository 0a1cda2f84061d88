use Rattle.responder_machine.proofs.Brought.{brought_taken}
use Rattle.responder_machine.proofs.new_data_laws.brought_is_taken.Goals as goal

pub returns : goal.returns
returns c = brought_taken
