use Rattle.spdm_progress.proofs.SessionCompletes.{ended_at_both_ends}
use Rattle.spdm_progress.proofs.laws.ended_at_both_ends.Goals as goal

pub returns : goal.returns
returns c = ended_at_both_ends
