use Rattle.script_laws.proofs.WorldsRight.{completes as proved}
use Rattle.script_laws.proofs.laws.script_completes.Goals as goal

pub returns : goal.returns
returns c = proved
