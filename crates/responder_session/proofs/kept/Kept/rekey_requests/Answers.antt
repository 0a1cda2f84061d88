use Rattle.responder_session.proofs.kept.Kept.rekey_requests.Goals as goal

pub returns-clause-key : goal.returns-clause-key
returns-clause-key c = c.update.ensures
