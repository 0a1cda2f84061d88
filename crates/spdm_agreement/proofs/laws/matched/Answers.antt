use Rattle.spdm_agreement.proofs.Worlds.Assembled.{matches}
use Rattle.spdm_agreement.proofs.laws.matched.Goals as goal

pub returns : goal.returns
returns c = matches
