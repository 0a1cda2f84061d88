use Rattle.script_laws.proofs.WorldsRight.{agrees}
use Rattle.script_laws.proofs.laws.script_agrees.Goals as goal

pub returns : goal.returns
returns c = agrees
