use Rattle.spdm_progress.proofs.ScriptsComplete.{quiet_worlds_complete}
use Rattle.spdm_progress.proofs.laws.quiet_worlds_complete.Goals as goal

pub returns : goal.returns
returns c = quiet_worlds_complete
