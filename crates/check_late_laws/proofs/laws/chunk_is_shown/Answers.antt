use Rattle.check_late_laws.proofs.Shown.{chunk_is_shown}
use Rattle.check_late_laws.proofs.laws.chunk_is_shown.Goals as goal

pub returns : goal.returns
returns c = chunk_is_shown
