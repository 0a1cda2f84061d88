use Rattle.spdm_progress.proofs.Measured.{measure_completes}
use Rattle.spdm_progress.proofs.laws.measure_completes.Goals as goal

pub returns : goal.returns
returns c = measure_completes
