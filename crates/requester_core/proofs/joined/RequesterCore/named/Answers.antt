use Rattle.requester_core.proofs.joined.RequesterCore.named.Goals as goal

pub returns : goal.returns
returns c = λ q h stands short. c.named.ensures q h stands.sessions short
