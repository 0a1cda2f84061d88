use Rattle.responder_core.proofs.connected.Connection.free_id.Goals as goal

pub returns-clause-value : goal.returns-clause-value
returns-clause-value c = λ r h stands. c.free_id.ensures.value r h stands.sessions
