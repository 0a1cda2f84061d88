use Rattle.spdm_progress.proofs.Connected.{connect_completes}
use Rattle.spdm_progress.proofs.laws.connect_completes.Goals as goal

pub returns : goal.returns
returns c = connect_completes
