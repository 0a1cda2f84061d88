use Rattle.script_laws.proofs.RefusedRight.{refuses}
use Rattle.script_laws.proofs.laws.script_refuses.Goals as goal

pub returns : goal.returns
returns c = refuses
