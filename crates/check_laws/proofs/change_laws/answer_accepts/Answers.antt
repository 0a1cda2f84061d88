use Rattle.check_laws.proofs.AcceptedAnswers.{answer_accepts}
use Rattle.check_laws.proofs.change_laws.answer_accepts.Goals as goal

pub returns : goal.returns
returns c = answer_accepts
