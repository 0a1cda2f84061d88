use Rattle.script_laws.proofs.RefusedRight.{body_only as proved}
use Rattle.script_laws.proofs.laws.refused_by_table.Goals as goal

pub returns : goal.returns
returns c = proved
