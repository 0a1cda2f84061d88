use Rattle.spdm_agreement.proofs.Worlds.Scripts.{scripts_are_configured}
use Rattle.spdm_agreement.proofs.laws.scripts_are_configured.Goals as goal

pub returns : goal.returns
returns c = scripts_are_configured
