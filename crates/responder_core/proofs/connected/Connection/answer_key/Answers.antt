use Rattle.responder_core.proofs.connected.Connection.answer_key.Goals as goal

pub returns : goal.returns
returns c = λ r h f few stands. c.answer_key.ensures r h f few stands.sessions
