use Rattle.check_laws.proofs.ChangesMade.{whole_answer_changes}
use Rattle.check_laws.proofs.change_laws.whole_answer_changes.Goals as goal

pub returns : goal.returns
returns c = whole_answer_changes
