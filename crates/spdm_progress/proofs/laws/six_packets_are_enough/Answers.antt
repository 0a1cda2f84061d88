use Rattle.spdm_progress.proofs.Connected.{six_packets_are_enough}
use Rattle.spdm_progress.proofs.laws.six_packets_are_enough.Goals as goal

pub returns : goal.returns
returns c = six_packets_are_enough
