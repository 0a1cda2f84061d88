use Rattle.requester_core.proofs.joined.RequesterCore.view.Goals as goal

pub returns : goal.returns
returns c = λ q h stands short. c.view.ensures q h stands.sessions short
