use Rattle.responder_core.proofs.connected.Connection.read_last.Goals as goal

pub returns-clause-told : goal.returns-clause-told
returns-clause-told c = λ r h stands. c.read_last.ensures.told r h stands.sessions

pub returns-clause-inner : goal.returns-clause-inner
returns-clause-inner c = λ r h stands. c.read_last.ensures.inner r h stands.sessions

pub returns-clause-reply : goal.returns-clause-reply
returns-clause-reply c = λ r h stands. c.read_last.ensures.reply r h stands.sessions
