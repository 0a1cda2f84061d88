use Rattle.responder_core.proofs.connected.Connection.next_answer_key.Goals as goal

pub returns : goal.returns
returns c = λ r h stands. c.next_answer_key.ensures r h stands.sessions
