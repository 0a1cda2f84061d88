use Rattle.script_laws.proofs.ScriptRead.{script_sound}
use Rattle.script_laws.proofs.laws.read_script_is_sound.Goals as goal

pub returns : goal.returns
returns c = (λ text script h. (script_sound text script h).0, λ text script h. (script_sound text script h).1)
