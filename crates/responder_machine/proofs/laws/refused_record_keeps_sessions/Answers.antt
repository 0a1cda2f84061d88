use Rattle.responder_machine.proofs.Refused.{refused_record}
use Rattle.responder_machine.proofs.laws.refused_record_keeps_sessions.Goals as goal

pub returns : goal.returns
returns c = refused_record
