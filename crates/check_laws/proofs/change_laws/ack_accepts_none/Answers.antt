use Rattle.check_laws.proofs.AcceptedAnswers.{ack_accepts_none}
use Rattle.check_laws.proofs.change_laws.ack_accepts_none.Goals as goal

pub returns : goal.returns
returns c = ack_accepts_none
