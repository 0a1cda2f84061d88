use Rattle.spdm_progress.proofs.SessionCompletes.{answers_are_queued}
use Rattle.spdm_progress.proofs.laws.answers_are_queued.Goals as goal

pub returns : goal.returns
returns c = answers_are_queued
