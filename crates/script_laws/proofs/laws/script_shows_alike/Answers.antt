use Rattle.script_laws.proofs.WorldsRight.{shows_alike}
use Rattle.script_laws.proofs.laws.script_shows_alike.Goals as goal

pub returns : goal.returns
returns c = shows_alike
