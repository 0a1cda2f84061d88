use Rattle.responder_core.proofs.connected.Connection.is_timed.Goals as goal

pub returns : goal.returns
returns c = λ r h stands. c.is_timed.ensures r h stands.sessions
