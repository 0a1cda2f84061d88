use Rattle.script_laws.proofs.RefusedRight.{table_refuses as proved}
use Rattle.script_laws.proofs.laws.table_refuses.Goals as goal

pub returns : goal.returns
returns c = proved
