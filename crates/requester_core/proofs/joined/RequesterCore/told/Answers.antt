use Rattle.requester_core.proofs.joined.RequesterCore.told.Goals as goal

pub returns : goal.returns
returns c = λ q h stands. c.told.ensures q h stands.sessions
