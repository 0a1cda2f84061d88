use Rattle.responder_machine.proofs.QueuedBrings.{queued_sent}
use Rattle.responder_machine.proofs.new_data_laws.queued_is_sent.Goals as goal

pub returns : goal.returns
returns c = queued_sent
