use Rattle.spdm_progress.proofs.SessionCompletes.{session_commands_complete}
use Rattle.spdm_progress.proofs.laws.session_commands_complete.Goals as goal

pub returns : goal.returns
returns c = session_commands_complete
