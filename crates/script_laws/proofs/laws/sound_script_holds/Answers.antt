use Rattle.script_laws.proofs.WorldsRight.{sound_holds as proved}
use Rattle.script_laws.proofs.laws.sound_script_holds.Goals as goal

pub returns : goal.returns
returns c = proved
