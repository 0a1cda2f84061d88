use Rattle.script_laws.proofs.WorldsRight.{configured}
use Rattle.script_laws.proofs.laws.script_is_configured.Goals as goal

pub returns : goal.returns
returns c = configured
