use Rattle.check_laws.proofs.StepsOfWalks.{walks_step}
use Rattle.check_laws.proofs.row_laws.walks_step.Goals as goal

pub returns : goal.returns
returns c = walks_step
