use Rattle.responder_core.proofs.connected.Connection.belongs.Goals as goal

pub returns : goal.returns
returns c = λ r h stands. c.belongs.ensures r h stands.sessions
