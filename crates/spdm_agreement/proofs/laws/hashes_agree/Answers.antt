use Rattle.spdm_agreement.proofs.Worlds.Assembled.{show_alike}
use Rattle.spdm_agreement.proofs.laws.hashes_agree.Goals as goal

pub returns : goal.returns
returns c = show_alike
