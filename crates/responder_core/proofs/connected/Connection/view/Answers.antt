use Rattle.responder_core.proofs.connected.Connection.view.Goals as goal

pub returns : goal.returns
returns c = λ r h stands. c.view.ensures r h stands.sessions
