use Rattle.std.proofs.Common.{arith}
use Rattle.trace_check.proofs.CaptureRead.{capture_sound, config_sound, measured}
use Rattle.trace_check.proofs.text.check_text.Goals as goal

pub check-requires : goal.check-requires
check-requires c = measured c.in-Ok.capture (capture_sound c.args.text.now c.in-Ok.capture c.in-Ok.ensures)

pub returns-in-Ok-check : goal.returns-in-Ok-check
returns-in-Ok-check c =
    let capture = c.in-Ok.capture in
    let sound = capture_sound c.args.text.now capture c.in-Ok.ensures in
    let few = sound.few in
    (capture, c.in-Ok.ensures, c.in-Ok-check.ensures (config_sound capture.config sound.config) (omega (arith, few)))
