use Rattle.check_late_laws.proofs.Late.Completing.{late_completes}
use Rattle.check_late_laws.proofs.late_fetch.laws.late_completes.Goals as goal

pub returns : goal.returns
returns c = late_completes
