use Rattle.responder_machine.proofs.Refused.{refused_clear}
use Rattle.responder_machine.proofs.laws.refused_clear_keeps_sessions.Goals as goal

pub returns : goal.returns
returns c = refused_clear
