use Rattle.spdm_progress.proofs.PumpedScripts.{pumped_scripts_are_honest}
use Rattle.spdm_progress.proofs.laws.pumped_scripts_are_honest.Goals as goal

pub returns : goal.returns
returns c = pumped_scripts_are_honest
