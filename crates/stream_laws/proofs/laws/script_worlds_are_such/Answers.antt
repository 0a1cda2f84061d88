use Rattle.stream_laws.proofs.Configurations.{are_such}
use Rattle.stream_laws.proofs.laws.script_worlds_are_such.Goals as goal

pub returns : goal.returns
returns c = are_such
