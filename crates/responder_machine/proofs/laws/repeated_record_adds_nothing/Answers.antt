use Rattle.responder_machine.proofs.Repeats.{repeated_record}
use Rattle.responder_machine.proofs.laws.repeated_record_adds_nothing.Goals as goal

pub returns : goal.returns
returns c = repeated_record
