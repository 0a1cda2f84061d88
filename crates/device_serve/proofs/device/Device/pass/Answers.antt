use Rattle.std.proofs.Common.{Ok}
use Rattle.device_serve.proofs.Settling.{behind_all, behind_part, none_waits}
use Rattle.device_serve.specs.Devised.{rests, settles}
use Rattle.frame_stream.proofs.Runs.{nothing_written}
use Rattle.responder_machine.specs.Responding.{Responding, ticks}
use Rattle.device_serve.proofs.device.Device.pass.Goals as goal

pub returns-in-Ok-clause-passed : goal.returns-in-Ok-clause-passed
returns-in-Ok-clause-passed g c = λ d stands.
    let held = g.K.Sink.contents c.args.sink.now in
    let mid = g.K.Sink.contents c.settle.new.sink in
    let settled = c.in-Ok.ensures.settled d stands in
    let kept = none_waits d c.settle.new.self settled.0 in
    behind_all (settles d) (λ (r : Responding). rests (ticks r c.args.seconds)) held mid (Ok tt) (record c.settle.new.self { responder = c.tick.new.self }) mid settled.1
    (record { responder = c.tick.ensures (settles d).after.responder kept.responder; waits = kept.waits }, nothing_written mid)

pub returns-in-Err-clause-passed : goal.returns-in-Err-clause-passed
returns-in-Err-clause-passed g c = λ d stands.
    behind_part (settles d) (λ (r : Responding). rests (ticks r c.args.seconds)) (g.K.Sink.contents c.args.sink.now) c.in-Err.fault c.settle.new.self c.settle.new.self (g.K.Sink.contents c.settle.new.sink)
    (c.in-Err.ensures.settled d stands)
