use Rattle.script_text.proofs.ConfigBack.{printed_script}
use Rattle.script_text.proofs.laws.printed_script_is_read.Goals as goal

pub returns : goal.returns
returns c = printed_script
