use Rattle.spdm_progress.proofs.Opened.{open_completes}
use Rattle.spdm_progress.proofs.laws.open_completes.Goals as goal

pub returns : goal.returns
returns c = open_completes
