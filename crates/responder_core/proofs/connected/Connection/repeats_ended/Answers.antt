use Rattle.responder_core.proofs.connected.Connection.repeats_ended.Goals as goal

pub returns : goal.returns
returns c = λ r h stands. c.repeats_ended.ensures r h stands.sessions
