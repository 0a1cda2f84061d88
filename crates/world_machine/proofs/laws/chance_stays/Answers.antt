use Rattle.world_machine.proofs.Logs.{chance}
use Rattle.world_machine.proofs.laws.chance_stays.Goals as goal

pub returns : goal.returns
returns c = chance
