use Rattle.attest_laws.proofs.Verdicts.{worlds_attest}
use Rattle.attest_laws.proofs.laws.attested_as_configured.Goals as goal

pub returns : goal.returns
returns c = worlds_attest
