use Rattle.responder_core.proofs.connected.Connection.repeats_last.Goals as goal

pub returns : goal.returns
returns c = λ r h stands. c.repeats_last.ensures r h stands.sessions
