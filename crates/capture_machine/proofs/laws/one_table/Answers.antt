use Rattle.capture_machine.proofs.WalksAlike.{one_table}
use Rattle.capture_machine.proofs.laws.one_table.Goals as goal

pub returns : goal.returns
returns c = one_table
