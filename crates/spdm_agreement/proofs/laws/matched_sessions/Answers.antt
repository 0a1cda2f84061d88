use Rattle.spdm_agreement.proofs.Moves.Runs.{holds, opened_matches, ever_matches, one_id}
use Rattle.spdm_agreement.proofs.laws.matched_sessions.Goals as goal

pub returns : goal.returns
returns c r s reached = (let k = holds r s reached in (opened_matches r _ _ _ k, one_id r _ _ _ k, ever_matches r _ _ _ k, k.asks.apart, k.asks.seconds))
