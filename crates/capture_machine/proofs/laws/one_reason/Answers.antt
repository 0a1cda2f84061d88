use Rattle.capture_machine.proofs.WalksAlike.{one_reason}
use Rattle.capture_machine.proofs.laws.one_reason.Goals as goal

pub returns : goal.returns
returns c = one_reason
