use Rattle.attest_laws.proofs.Worlds.{worlds_measure}
use Rattle.attest_laws.proofs.laws.measured_as_configured.Goals as goal

pub returns : goal.returns
returns c = worlds_measure
