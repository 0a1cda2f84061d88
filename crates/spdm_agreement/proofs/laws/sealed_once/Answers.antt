use Rattle.spdm_agreement.proofs.Worlds.Assembled.{seal_once}
use Rattle.spdm_agreement.proofs.laws.sealed_once.Goals as goal

pub returns : goal.returns
returns c = seal_once
