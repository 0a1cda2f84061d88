use Rattle.std.proofs.Common.{sym}
use Rattle.responder_core.proofs.connected.Connection.held.Goals as goal

pub returns : goal.returns
returns c = λ r h stands. sym (c.held.ensures.value r h stands.sessions)
