use Rattle.capture_machine.proofs.Captures.{one_is_first}
use Rattle.capture_machine.proofs.laws.one_is_first.Goals as goal

pub returns : goal.returns
returns c = one_is_first
