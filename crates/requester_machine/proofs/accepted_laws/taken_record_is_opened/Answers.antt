use Rattle.requester_machine.proofs.Heard.{taken_opened}
use Rattle.requester_machine.proofs.accepted_laws.taken_record_is_opened.Goals as goal

pub returns : goal.returns
returns c = taken_opened
