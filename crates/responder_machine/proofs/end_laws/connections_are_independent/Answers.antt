use Rattle.responder_machine.proofs.Independent.{independent}
use Rattle.responder_machine.proofs.end_laws.connections_are_independent.Goals as goal

pub returns : goal.returns
returns c = independent
