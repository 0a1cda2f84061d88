use Rattle.responder_core.proofs.connected.Connection.session_terms.Goals as goal

pub returns : goal.returns
returns c = λ r h stands. c.terms.ensures r h stands.sessions
