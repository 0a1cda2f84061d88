use Rattle.responder_core.proofs.Queued.{queued}
use Rattle.responder_core.proofs.connected.Connection.queue.Goals as goal

pub returns-clause-stands : goal.returns-clause-stands
returns-clause-stands c = λ r h stands. queued c.push.result r h c.args.self.now c.args.bytes.now c.push.new.self stands c.push.ensures.ok
