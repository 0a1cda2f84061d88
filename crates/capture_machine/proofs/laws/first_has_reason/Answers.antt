use Rattle.capture_machine.proofs.Differences.{has_reason}
use Rattle.capture_machine.proofs.laws.first_has_reason.Goals as goal

pub returns : goal.returns
returns c = has_reason
