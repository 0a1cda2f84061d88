use Rattle.std.proofs.Common.{ℕ, List, ap, subst}
use Rattle.device_serve.proofs.Settling.{behind_all, behind_part, no_from, none_waits}
use Rattle.device_serve.specs.Devised.{arrives, behind, settles}
use Rattle.device_serve.specs.Standing.{IsDevisedBy}
use Rattle.frame_stream.specs.Standing.{content_in}
use Rattle.responder_machine.specs.Responding.{Responding}
use Rattle.device_serve.proofs.device.Device.take_packet.Goals as goal

pub arrive-requires-clause-device : goal.arrive-requires-clause-device
arrive-requires-clause-device g c =
    let d = c.requires.device.0 in
    ((settles d).after, (c.in-Ok.ensures.settled d c.requires.device.1).0)

pub arrive-requires-clause-rests : goal.arrive-requires-clause-rests
arrive-requires-clause-rests g c =
    let d = c.requires.device.0 in
    no_from c.settle.new.self.waiting (none_waits d c.settle.new.self (c.in-Ok.ensures.settled d c.requires.device.1).0).waits

pub returns-in-Ok-clause-taken : goal.returns-in-Ok-clause-taken
returns-in-Ok-clause-taken g c = λ d stands.
    let config = c.args.config.now in
    let held = g.K.Sink.contents c.args.sink.now in
    let mid = g.K.Sink.contents c.settle.new.sink in
    let holds = g.K.Sink.contents c.arrive.new.sink in
    let settled = c.in-Ok.ensures.settled d stands in
    let own = c.arrive.ensures.arrived (settles d).after settled.0 in
    subst (λ (content : List ℕ). IsDevisedBy (behind (settles d) (λ (r : Responding). arrives config r content)) held c.arrive.result c.arrive.new.self holds) (ap content_in c.in-Ok.ensures.reader)
    (behind_all (settles d) (λ (r : Responding). arrives config r (content_in c.settle.new.self.reader)) held mid c.arrive.result c.arrive.new.self holds settled.1 own)

pub returns-in-Err-clause-taken : goal.returns-in-Err-clause-taken
returns-in-Err-clause-taken g c = λ d stands.
    behind_part (settles d) (λ (r : Responding). arrives c.args.config.now r (content_in c.args.self.now.reader)) (g.K.Sink.contents c.args.sink.now) c.in-Err.fault c.settle.new.self c.settle.new.self (g.K.Sink.contents c.settle.new.sink)
    (c.in-Err.ensures.settled d stands)
