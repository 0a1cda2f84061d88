use Rattle.check_laws.proofs.KeptAnswers.{kept_is_restored}
use Rattle.check_laws.proofs.laws.kept_is_restored.Goals as goal

pub returns : goal.returns
returns c = kept_is_restored
