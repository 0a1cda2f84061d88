use Rattle.spdm_progress.proofs.QuietCommands.{quiet_measures_complete}
use Rattle.spdm_progress.proofs.laws.quiet_measures_complete.Goals as goal

pub returns : goal.returns
returns c = quiet_measures_complete
