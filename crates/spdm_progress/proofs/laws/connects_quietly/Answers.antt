use Rattle.spdm_progress.proofs.ConnectRounds.{connects_quietly}
use Rattle.spdm_progress.proofs.laws.connects_quietly.Goals as goal

pub returns : goal.returns
returns c = connects_quietly
