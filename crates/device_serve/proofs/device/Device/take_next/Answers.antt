use Rattle.std.proofs.Common.{Option, refl, subst}
use Rattle.device_serve.proofs.Steps.{answered, answered_part, line_answered, line_part}
use Rattle.device_serve.specs.Standing.{Written}
use Rattle.frame_stream.specs.Frames.GivenFrame.{CommandOf, PacketOf, TicksOf}
use Rattle.frame_stream.specs.Runs.{Counts}
use Rattle.frame_stream.specs.Standing.{IsNext, IsRead, content_in, frame_as}
use Rattle.frame_stream.specs.declared.kinds.FrameKind.{FrameKind}
use Rattle.device_serve.proofs.device.Device.take_next.Goals as goal

pub returns-in-Ok-clause-step : goal.returns-in-Ok-clause-step
returns-in-Ok-clause-step g c = λ d stands.
    let old = c.args.self.now in
    let before = g.S.Source.remaining c.args.source.now in
    let held = g.K.Sink.contents c.args.sink.now in
    let mid = c.next.new.self in
    let after = g.S.Source.remaining c.next.new.source in
    let read : IsRead old.reader before (PacketOf (content_in mid)) mid after =
    subst (λ (k : FrameKind). IsRead old.reader before (frame_as k (content_in mid)) mid after) c.in-Ok-Some-Packet.field-0-0-is
    (subst (λ (o : Option FrameKind). IsNext old.reader before o mid after) c.in-Ok-Some-Packet.field-0-is c.in-Ok-Some-Packet.ensures.next) in
    answered c.args.config.now d old before held mid after (PacketOf (content_in mid)) read tt c.take_packet.new.self (g.K.Sink.contents c.take_packet.new.sink) c.in-Ok.ensures.reader (c.in-Ok.ensures.taken d stands)

pub returns-in-Err-take_packet-clause-fault : goal.returns-in-Err-take_packet-clause-fault
returns-in-Err-take_packet-clause-fault g c = λ d stands.
    let old = c.args.self.now in
    let before = g.S.Source.remaining c.args.source.now in
    let held = g.K.Sink.contents c.args.sink.now in
    let mid = c.next.new.self in
    let after = g.S.Source.remaining c.next.new.source in
    let read : IsRead old.reader before (PacketOf (content_in mid)) mid after =
    subst (λ (k : FrameKind). IsRead old.reader before (frame_as k (content_in mid)) mid after) c.in-Ok-Some-Packet.field-0-0-is
    (subst (λ (o : Option FrameKind). IsNext old.reader before o mid after) c.in-Ok-Some-Packet.field-0-is c.in-Ok-Some-Packet.ensures.next) in
    let n : Counts = record {
      read_before = g.S.Source.faults c.args.source.now;
      read_after = g.S.Source.faults c.next.new.source;
      written_before = g.K.Sink.faults c.args.sink.now;
      written_after = g.K.Sink.faults c.take_packet.new.sink;
    } in
    answered_part c.args.config.now d old before held mid after (PacketOf (content_in mid)) read tt c.take_packet.new.self (g.K.Sink.contents c.take_packet.new.sink) c.in-Err-take_packet.ensures.reader n c.in-Err-take_packet.fault c.in-Err-take_packet.ensures.fault (c.in-Err-take_packet.ensures.taken d stands)

pub returns-in-Ok-pass-clause-step : goal.returns-in-Ok-pass-clause-step
returns-in-Ok-pass-clause-step g c = λ d stands.
    let old = c.args.self.now in
    let before = g.S.Source.remaining c.args.source.now in
    let held = g.K.Sink.contents c.args.sink.now in
    let mid = c.next.new.self in
    let after = g.S.Source.remaining c.next.new.source in
    let read : IsRead old.reader before (TicksOf c.in-Ok-Some-Tick.seconds) mid after =
    subst (λ (k : FrameKind). IsRead old.reader before (frame_as k (content_in mid)) mid after) c.in-Ok-Some-Tick.field-0-0-is
    (subst (λ (o : Option FrameKind). IsNext old.reader before o mid after) c.in-Ok-Some-Tick.field-0-is c.in-Ok-Some-Tick.ensures.next) in
    answered c.args.config.now d old before held mid after (TicksOf c.in-Ok-Some-Tick.seconds) read tt c.pass.new.self (g.K.Sink.contents c.pass.new.sink) c.in-Ok-pass.ensures.reader (c.in-Ok-pass.ensures.passed d stands)

pub returns-in-Err-pass-clause-fault : goal.returns-in-Err-pass-clause-fault
returns-in-Err-pass-clause-fault g c = λ d stands.
    let old = c.args.self.now in
    let before = g.S.Source.remaining c.args.source.now in
    let held = g.K.Sink.contents c.args.sink.now in
    let mid = c.next.new.self in
    let after = g.S.Source.remaining c.next.new.source in
    let read : IsRead old.reader before (TicksOf c.in-Ok-Some-Tick.seconds) mid after =
    subst (λ (k : FrameKind). IsRead old.reader before (frame_as k (content_in mid)) mid after) c.in-Ok-Some-Tick.field-0-0-is
    (subst (λ (o : Option FrameKind). IsNext old.reader before o mid after) c.in-Ok-Some-Tick.field-0-is c.in-Ok-Some-Tick.ensures.next) in
    let n : Counts = record {
      read_before = g.S.Source.faults c.args.source.now;
      read_after = g.S.Source.faults c.next.new.source;
      written_before = g.K.Sink.faults c.args.sink.now;
      written_after = g.K.Sink.faults c.pass.new.sink;
    } in
    answered_part c.args.config.now d old before held mid after (TicksOf c.in-Ok-Some-Tick.seconds) read tt c.pass.new.self (g.K.Sink.contents c.pass.new.sink) c.in-Err-pass.ensures.reader n c.in-Err-pass.fault c.in-Err-pass.ensures.fault (c.in-Err-pass.ensures.passed d stands)

pub returns-in-Ok-obey-clause-step : goal.returns-in-Ok-obey-clause-step
returns-in-Ok-obey-clause-step g c = λ d stands.
    let old = c.args.self.now in
    let before = g.S.Source.remaining c.args.source.now in
    let held = g.K.Sink.contents c.args.sink.now in
    let mid = c.next.new.self in
    let after = g.S.Source.remaining c.next.new.source in
    let read : IsRead old.reader before (CommandOf (content_in mid)) mid after =
    subst (λ (k : FrameKind). IsRead old.reader before (frame_as k (content_in mid)) mid after) c.in-Ok-Some-Command.field-0-0-is
    (subst (λ (o : Option FrameKind). IsNext old.reader before o mid after) c.in-Ok-Some-Command.field-0-is c.in-Ok-Some-Command.ensures.next) in
    let w : Written = record { before = g.K.Sink.faults c.args.sink.now; after = g.K.Sink.faults c.obey.new.sink } in
    line_answered c.args.config.now d old before held mid after (content_in mid) read c.obey.new.self (g.K.Sink.contents c.obey.new.sink) c.in-Ok-obey.ensures.reader w (c.in-Ok-obey.ensures.obeyed d stands)

pub returns-in-Err-obey-clause-fault : goal.returns-in-Err-obey-clause-fault
returns-in-Err-obey-clause-fault g c = λ d stands.
    let old = c.args.self.now in
    let before = g.S.Source.remaining c.args.source.now in
    let held = g.K.Sink.contents c.args.sink.now in
    let mid = c.next.new.self in
    let after = g.S.Source.remaining c.next.new.source in
    let read : IsRead old.reader before (CommandOf (content_in mid)) mid after =
    subst (λ (k : FrameKind). IsRead old.reader before (frame_as k (content_in mid)) mid after) c.in-Ok-Some-Command.field-0-0-is
    (subst (λ (o : Option FrameKind). IsNext old.reader before o mid after) c.in-Ok-Some-Command.field-0-is c.in-Ok-Some-Command.ensures.next) in
    let w : Written = record { before = g.K.Sink.faults c.args.sink.now; after = g.K.Sink.faults c.obey.new.sink } in
    let n : Counts = record {
      read_before = g.S.Source.faults c.args.source.now;
      read_after = g.S.Source.faults c.next.new.source;
      written_before = g.K.Sink.faults c.args.sink.now;
      written_after = g.K.Sink.faults c.obey.new.sink;
    } in
    line_part c.args.config.now d old before held mid after (content_in mid) read c.obey.new.self (g.K.Sink.contents c.obey.new.sink) c.in-Err-obey.ensures.reader w n c.in-Err-obey.fault refl refl (c.in-Err-obey.ensures.obeyed d stands)
