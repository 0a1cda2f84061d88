-- A session that is set aside is gone as if it had been dropped.
use Rattle.responder_core.proofs.Waiting.{dropped}
use Rattle.responder_core.proofs.connected.Connection.set_aside.Goals as goal

pub returns-clause-stands : goal.returns-clause-stands
returns-clause-stands c = λ r h stands. record {
  clear = record { requests = stands.clear.requests; kept = stands.clear.kept };
  sessions = dropped r h c.args.id c.args.self.now.sessions c.take_out.new.self stands.sessions c.take_out.ensures.own c.take_out.ensures.others c.take_out.ensures.ended;
  queue = stands.queue;
  sizes = stands.sizes;
}
