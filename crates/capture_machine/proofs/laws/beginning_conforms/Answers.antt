use Rattle.capture_machine.proofs.Captures.{beginning}
use Rattle.capture_machine.proofs.laws.beginning_conforms.Goals as goal

pub returns : goal.returns
returns c = beginning
