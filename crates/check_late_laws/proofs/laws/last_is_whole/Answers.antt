use Rattle.check_late_laws.proofs.Shown.{last_is_whole}
use Rattle.check_late_laws.proofs.laws.last_is_whole.Goals as goal

pub returns : goal.returns
returns c = last_is_whole
