use Rattle.device_serve.proofs.Settling.{settled_ok, settled_part}
use Rattle.device_serve.proofs.device.Device.settle.Goals as goal

pub returns-in-Ok-clause-settled : goal.returns-in-Ok-clause-settled
returns-in-Ok-clause-settled g c = λ d stands.
    settled_ok c.args.self.now d stands c.packet.result.now c.if-is_none.ensures c.packet.ensures (g.K.Sink.contents c.args.sink.now) (record c.args.self.now { responder = c.hear.new.responder; waiting = c.release.new.self }) (g.K.Sink.contents c.hear.new.sink) (c.in-Ok.ensures.heard d.responder stands.responder) c.release.ensures

pub returns-in-Err-clause-settled : goal.returns-in-Err-clause-settled
returns-in-Err-clause-settled g c = λ d stands.
    settled_part c.args.self.now d stands c.packet.result.now c.if-is_none.ensures c.packet.ensures (g.K.Sink.contents c.args.sink.now) c.in-Err.field-0 (record c.args.self.now { responder = c.hear.new.responder }) (g.K.Sink.contents c.hear.new.sink) (c.in-Err.ensures.heard d.responder stands.responder)
