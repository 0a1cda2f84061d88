use Rattle.responder_session.proofs.Waits.{start_is_answer}
use Rattle.responder_session.proofs.laws.start_is_answer.Goals as goal

pub returns : goal.returns
returns c = start_is_answer
