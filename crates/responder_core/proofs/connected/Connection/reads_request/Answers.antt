use Rattle.responder_core.proofs.connected.Connection.reads_request.Goals as goal

pub returns-clause-opens : goal.returns-clause-opens
returns-clause-opens c = λ r h stands. c.reads_request.ensures.opens r h stands.sessions

pub returns-clause-inner : goal.returns-clause-inner
returns-clause-inner c = λ r h stands. c.reads_request.ensures.inner r h stands.sessions
