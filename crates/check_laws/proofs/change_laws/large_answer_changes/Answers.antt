use Rattle.check_laws.proofs.ChangesMade.{large_answer_changes}
use Rattle.check_laws.proofs.change_laws.large_answer_changes.Goals as goal

pub returns : goal.returns
returns c = large_answer_changes
