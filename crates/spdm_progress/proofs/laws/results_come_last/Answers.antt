use Rattle.spdm_progress.proofs.QuietCommands.{results_come_last}
use Rattle.spdm_progress.proofs.laws.results_come_last.Goals as goal

pub returns : goal.returns
returns c = results_come_last
