use Rattle.requester_core.proofs.joined.RequesterCore.open_next.Goals as goal

pub returns-clause-few : goal.returns-clause-few
returns-clause-few c = λ q h stands short few. c.open_next.ensures.few q h stands.sessions short few

pub returns-clause-resting : goal.returns-clause-resting
returns-clause-resting c = λ q h stands short none. c.open_next.ensures.resting q h stands.sessions short none
