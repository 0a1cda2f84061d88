use Rattle.responder_machine.proofs.KeptRest.{refused_record_rest}
use Rattle.responder_machine.proofs.refusals.refused_record_keeps_connection.Goals as goal

pub returns : goal.returns
returns c = refused_record_rest
