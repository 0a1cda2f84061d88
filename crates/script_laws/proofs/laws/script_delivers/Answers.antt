use Rattle.script_laws.proofs.WorldsRight.{delivers}
use Rattle.script_laws.proofs.laws.script_delivers.Goals as goal

pub returns : goal.returns
returns c = delivers
