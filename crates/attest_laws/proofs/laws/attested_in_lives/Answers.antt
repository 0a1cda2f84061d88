use Rattle.attest_laws.proofs.Lives.{lives_attest}
use Rattle.attest_laws.proofs.laws.attested_in_lives.Goals as goal

pub returns : goal.returns
returns c = lives_attest
