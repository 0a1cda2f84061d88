use Rattle.spdm_agreement.proofs.Worlds.Assembled.{deliver}
use Rattle.spdm_agreement.proofs.laws.data_prefix.Goals as goal

pub returns : goal.returns
returns c = deliver
