use Rattle.responder_core.proofs.connected.Connection.silence.Goals as goal

pub returns : goal.returns
returns c = λ r h stands. c.silence.ensures r h stands.sessions
