use Rattle.spdm_progress.proofs.QuietCommands.{quiet_commands_complete}
use Rattle.spdm_progress.proofs.laws.quiet_commands_complete.Goals as goal

pub returns : goal.returns
returns c = quiet_commands_complete
