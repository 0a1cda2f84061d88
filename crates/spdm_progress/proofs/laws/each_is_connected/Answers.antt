use Rattle.spdm_progress.proofs.Connected.{each_is_connected}
use Rattle.spdm_progress.proofs.laws.each_is_connected.Goals as goal

pub returns : goal.returns
returns c = each_is_connected
