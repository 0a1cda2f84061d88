use Rattle.responder_machine.proofs.Opened.{taken_record_opened}
use Rattle.responder_machine.proofs.laws.taken_record_is_opened.Goals as goal

pub returns : goal.returns
returns c = taken_record_opened
