use Rattle.responder_core.proofs.connected.Connection.data.Goals as goal

pub returns : goal.returns
returns c = λ r h stands. c.data.ensures r h stands.sessions
