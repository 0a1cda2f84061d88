use Rattle.spdm_progress.proofs.ScriptsComplete.{honest_scripts_complete}
use Rattle.spdm_progress.proofs.laws.honest_scripts_complete.Goals as goal

pub returns : goal.returns
returns c = honest_scripts_complete
