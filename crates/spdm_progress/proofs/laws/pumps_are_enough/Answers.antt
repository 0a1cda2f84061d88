use Rattle.spdm_progress.proofs.QuietCommands.{pumps_are_enough}
use Rattle.spdm_progress.proofs.laws.pumps_are_enough.Goals as goal

pub returns : goal.returns
returns c = pumps_are_enough
