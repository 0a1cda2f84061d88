use Rattle.check_laws.proofs.ChangesMade.{answer_asks_none}
use Rattle.check_laws.proofs.change_laws.answer_asks_none.Goals as goal

pub returns : goal.returns
returns c = answer_asks_none
