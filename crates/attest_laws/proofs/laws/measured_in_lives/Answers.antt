use Rattle.attest_laws.proofs.Lives.{lives_measure}
use Rattle.attest_laws.proofs.laws.measured_in_lives.Goals as goal

pub returns : goal.returns
returns c = lives_measure
