use Rattle.attest_laws.proofs.HonestAttestation.{honest_attestations_decide}
use Rattle.attest_laws.proofs.laws.honest_attestations_decide.Goals as goal

pub returns : goal.returns
returns c = honest_attestations_decide
