use Rattle.requester_core.proofs.joined.RequesterCore.open_owed.Goals as goal

pub returns : goal.returns
returns c = λ q bare sent id ask took aims short stands. c.open_owed.ensures q bare sent id ask took aims short stands.sessions
