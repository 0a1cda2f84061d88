use Rattle.requester_core.proofs.joined.RequesterCore.free_id.Goals as goal

pub returns-clause-value : goal.returns-clause-value
returns-clause-value c = λ q h stands. c.free_id.ensures.value q h stands.sessions
