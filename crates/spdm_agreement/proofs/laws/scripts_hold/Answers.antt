use Rattle.spdm_agreement.proofs.Worlds.Scripts.{scripts_hold}
use Rattle.spdm_agreement.proofs.laws.scripts_hold.Goals as goal

pub returns : goal.returns
returns c = scripts_hold
