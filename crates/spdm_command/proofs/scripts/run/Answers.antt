use Rattle.script_laws.proofs.ScriptRead.{script_sound}
use Rattle.spdm_command.proofs.scripts.run.Goals as goal

pub run_script-requires : goal.run_script-requires
run_script-requires g c = (script_sound c.args.text.now c.in-Ok.script c.in-Ok.ensures).0
