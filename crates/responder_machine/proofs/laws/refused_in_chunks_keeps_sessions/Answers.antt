use Rattle.responder_machine.proofs.Refused.{refused_in_chunks}
use Rattle.responder_machine.proofs.laws.refused_in_chunks_keeps_sessions.Goals as goal

pub returns : goal.returns
returns c = refused_in_chunks
