use Rattle.responder_machine.proofs.Connection.{refused_connection}
use Rattle.responder_machine.proofs.laws.refused_clear_keeps_connection.Goals as goal

pub returns : goal.returns
returns c = refused_connection
