use Rattle.device_serve.proofs.Settling.{replied, replied_part}
use Rattle.device_serve.specs.Devised as devised
use Rattle.responder_machine.specs.Independence.{after_reply}
use Rattle.device_serve.proofs.device.Device.reply.Goals as goal

pub returns-in-Ok-clause-replied : goal.returns-in-Ok-clause-replied
returns-in-Ok-clause-replied g c = λ d stands.
    let from = c.in-Some.from in
    let queued : devised.Device = record { responder = after_reply from.number c.args.bytes.now d.responder; waits = d.waits } in
    replied c.args.self.now d stands from c.in-Some.is c.args.bytes.now c.queue-answer.result (c.queue-answer.ensures.fault d.responder stands.responder)
    (g.K.Sink.contents c.args.sink.now) (g.K.Sink.contents c.write_reply.new.sink) c.settle.result c.settle.new.self (g.K.Sink.contents c.settle.new.sink) c.in-Ok.ensures.whole
    (c.settle.ensures.settled queued (record { responder = c.queue-answer.ensures.stands d.responder stands.responder; waits = stands.waits }))

pub returns-in-Err-clause-replied : goal.returns-in-Err-clause-replied
returns-in-Err-clause-replied g c = λ d stands.
    replied_part c.args.self.now d stands c.in-Some.from c.in-Some.is c.args.bytes.now c.queue-answer.result (c.queue-answer.ensures.fault d.responder stands.responder)
    (g.K.Sink.contents c.args.sink.now) c.args.self.now (g.K.Sink.contents c.write_reply.new.sink) c.in-Err.ensures.prefix

pub settle-requires : goal.settle-requires
settle-requires g c =
    let d = c.requires.0 in
    let stands = c.requires.1 in (
      record { responder = after_reply c.in-Some.from.number c.args.bytes.now d.responder; waits = d.waits },
      record { responder = c.queue-answer.ensures.stands d.responder stands.responder; waits = stands.waits },
    )
