use Rattle.std.proofs.Common.{◌∙◌}
use Rattle.responder_core.proofs.connected.Connection.ended_record.Goals as goal

pub returns : goal.returns
returns c = λ r h stands. c.copy.ensures ∙ stands.sessions.ended
