use Rattle.script_laws.proofs.WorldsRight.{matches}
use Rattle.script_laws.proofs.laws.script_matches.Goals as goal

pub returns : goal.returns
returns c = matches
