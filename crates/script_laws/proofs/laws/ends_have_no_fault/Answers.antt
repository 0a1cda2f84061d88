use Rattle.script_laws.proofs.EndsRight.{no_end_has_fault}
use Rattle.script_laws.proofs.laws.ends_have_no_fault.Goals as goal

pub returns : goal.returns
returns c = no_end_has_fault
