use Rattle.capture_machine.proofs.Captures.{has_table}
use Rattle.capture_machine.proofs.laws.conforming_has_table.Goals as goal

pub returns : goal.returns
returns c = has_table
