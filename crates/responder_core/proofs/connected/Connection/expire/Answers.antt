use Rattle.responder_core.proofs.connected.Connection.expire.Goals as goal

pub returns : goal.returns
returns c = λ r h stands. record {
  clear = record { requests = stands.clear.requests; kept = stands.clear.kept };
  sessions = c.expire.ensures r h stands.sessions;
  queue = stands.queue;
  sizes = stands.sizes;
}
