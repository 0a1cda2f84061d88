use Rattle.spdm_agreement.proofs.Worlds.Assembled.{agree}
use Rattle.spdm_agreement.proofs.laws.agreement.Goals as goal

pub returns : goal.returns
returns c = agree
