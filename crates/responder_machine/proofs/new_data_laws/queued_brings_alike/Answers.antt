use Rattle.responder_machine.proofs.QueuedBrings.{queued_alike}
use Rattle.responder_machine.proofs.new_data_laws.queued_brings_alike.Goals as goal

pub returns : goal.returns
returns c = queued_alike
