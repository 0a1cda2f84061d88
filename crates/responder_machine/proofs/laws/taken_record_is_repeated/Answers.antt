use Rattle.responder_machine.proofs.Repeats.{taken_record}
use Rattle.responder_machine.proofs.laws.taken_record_is_repeated.Goals as goal

pub returns : goal.returns
returns c = taken_record
