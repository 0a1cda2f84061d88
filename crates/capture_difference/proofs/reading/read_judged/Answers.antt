use Rattle.std.proofs.Common.{arith}
use Rattle.trace_check.proofs.CaptureRead.{capture_sound, config_sound, measured}
use Rattle.capture_difference.proofs.reading.read_judged.Goals as goal

pub judge-requires : goal.judge-requires
judge-requires c = measured c.in-Ok.capture (capture_sound c.args.text.now c.in-Ok.capture c.in-Ok.ensures)

pub returns-in-Ok-judge : goal.returns-in-Ok-judge
returns-in-Ok-judge c =
    let capture = c.in-Ok.capture in
    let sound = capture_sound c.args.text.now capture c.in-Ok.ensures in
    let few = sound.few in
    (capture, c.in-Ok.ensures, c.in-Ok-judge.ensures (config_sound capture.config sound.config) (omega (arith, few)))
