use Rattle.std.proofs.Common.{[], arith}
use Rattle.script_laws.proofs.ScriptRead.{script_sound}
use Rattle.script_capture.proofs.Few.{few_requesters}
use Rattle.script_capture.proofs.writing.write_capture.Goals as goal

pub carried_packets-requires : goal.carried_packets-requires
carried_packets-requires g c = (script_sound c.args.text.now c.in_ok-script.script c.in_ok-script.ensures).0

pub write_text-requires : goal.write_text-requires
write_text-requires g c =
    let sound = (script_sound c.args.text.now c.in_ok-script.script c.in_ok-script.ensures).0 in
    let few = few_requesters c.in_ok-script.script.config.responder.eid.number [] c.in_ok-script.script.config.requesters (omega arith) sound.requesters in
    omega (arith, few)
