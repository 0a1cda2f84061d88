use Rattle.responder_session.proofs.Records.{behind_has_reply}
use Rattle.responder_session.proofs.laws.behind_has_reply.Goals as goal

pub returns : goal.returns
returns c = behind_has_reply
