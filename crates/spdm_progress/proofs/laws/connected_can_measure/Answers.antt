use Rattle.spdm_progress.proofs.AfterConnect.{connected_can_measure}
use Rattle.spdm_progress.proofs.laws.connected_can_measure.Goals as goal

pub returns : goal.returns
returns c = connected_can_measure
