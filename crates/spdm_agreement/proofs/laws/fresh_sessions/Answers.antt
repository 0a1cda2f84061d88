use Rattle.spdm_agreement.proofs.Moves.Runs.{holds, unsaid, untaken}
use Rattle.spdm_agreement.proofs.laws.fresh_sessions.Goals as goal

pub returns : goal.returns
returns c r s reached t = (let k = holds r s reached in (unsaid r _ _ _ k t, untaken r _ _ _ k t))
