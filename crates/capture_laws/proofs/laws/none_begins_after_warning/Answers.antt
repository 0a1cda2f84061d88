use Rattle.capture_laws.proofs.Warned.{none_begins}
use Rattle.capture_laws.proofs.laws.none_begins_after_warning.Goals as goal

pub returns : goal.returns
returns c = none_begins
