use Rattle.script_laws.proofs.ConfigTextRead.{no_configured_end_has_fault}
use Rattle.script_laws.proofs.laws.configured_ends_have_no_fault.Goals as goal

pub returns : goal.returns
returns c = no_configured_end_has_fault
