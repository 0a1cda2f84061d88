use Rattle.spdm_progress.proofs.SessionCompletes.{answers_wait_first}
use Rattle.spdm_progress.proofs.laws.answers_wait_first.Goals as goal

pub returns : goal.returns
returns c = answers_wait_first
