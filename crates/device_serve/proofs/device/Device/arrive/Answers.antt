use Rattle.std.proofs.Common.{Ok, Option, subst}
use Rattle.device_serve.proofs.Arriving.{arrived_heard, arrived_heard_part, arrived_part, arrived_waits}
use Rattle.device_serve.specs.Standing.{IsArrival}
use Rattle.frame_stream.specs.Standing.{content_in}
use Rattle.spdm_basis.specs.declared.values.eid.Eid.{Eid}
use Rattle.device_serve.proofs.device.Device.arrive.Goals as goal

pub returns-in-Ok-Some-clause-arrived : goal.returns-in-Ok-Some-clause-arrived
returns-in-Ok-Some-clause-arrived g c = λ d stands.
    let held = g.K.Sink.contents c.args.sink.now in
    let holds = g.K.Sink.contents c.tell_brought.new.sink in
    let packet = c.content-packet.result.now in
    let config = c.args.config.now in
    let arrival = subst (λ (o : Option Eid). IsArrival config d.responder packet held (Ok o) holds) c.in-Ok-Some.field-0-is (c.in-Ok-Some.ensures.arrival d.responder stands.responder) in
    arrived_waits config d packet (content_in c.args.self.now.reader) c.content-packet.ensures held holds c.in-Ok-Some.from (record c.args.self.now { waiting = c.hold.new.self }) stands.responder arrival c.hold.ensures.bytes c.hold.ensures.from

pub returns-in-Ok-clause-arrived : goal.returns-in-Ok-clause-arrived
returns-in-Ok-clause-arrived g c = λ d stands.
    let held = g.K.Sink.contents c.args.sink.now in
    let mid = g.K.Sink.contents c.tell_brought.new.sink in
    let holds = g.K.Sink.contents c.hear.new.sink in
    let packet = c.content-packet.result.now in
    let config = c.args.config.now in
    let arrival = subst (λ (o : Option Eid). IsArrival config d.responder packet held (Ok o) mid) c.in-Ok-None.field-0-is (c.in-Ok-None.ensures.arrival d.responder stands.responder) in
    arrived_heard config d packet (content_in c.args.self.now.reader) c.content-packet.ensures held holds mid arrival (record c.args.self.now { responder = c.hear.new.responder }) (c.in-Ok.ensures.heard d.responder stands.responder) c.requires.rests

pub returns-in-Err-hear-clause-arrived : goal.returns-in-Err-hear-clause-arrived
returns-in-Err-hear-clause-arrived g c = λ d stands.
    let held = g.K.Sink.contents c.args.sink.now in
    let mid = g.K.Sink.contents c.tell_brought.new.sink in
    let holds = g.K.Sink.contents c.hear.new.sink in
    let packet = c.content-packet.result.now in
    let config = c.args.config.now in
    let arrival = subst (λ (o : Option Eid). IsArrival config d.responder packet held (Ok o) mid) c.in-Ok-None.field-0-is (c.in-Ok-None.ensures.arrival d.responder stands.responder) in
    arrived_heard_part config d packet (content_in c.args.self.now.reader) c.content-packet.ensures held holds mid arrival c.in-Err-hear.field-0 (record c.args.self.now { responder = c.hear.new.responder }) c.args.self.now (c.in-Err-hear.ensures.heard d.responder stands.responder)

pub returns-in-Err-clause-arrived : goal.returns-in-Err-clause-arrived
returns-in-Err-clause-arrived g c = λ d stands.
    arrived_part c.args.config.now d c.content-packet.result.now (content_in c.args.self.now.reader) c.content-packet.ensures (g.K.Sink.contents c.args.sink.now) (g.K.Sink.contents c.tell_brought.new.sink)
    c.in-Err.field-0 c.args.self.now (c.in-Err.ensures.arrival d.responder stands.responder)
