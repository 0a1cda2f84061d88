use Rattle.script_laws.proofs.WorldsRight.{seals_once}
use Rattle.script_laws.proofs.laws.script_seals_once.Goals as goal

pub returns : goal.returns
returns c = seals_once
