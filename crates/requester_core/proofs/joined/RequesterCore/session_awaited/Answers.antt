use Rattle.requester_core.proofs.joined.RequesterCore.session_awaited.Goals as goal

pub returns : goal.returns
returns c = λ q h stands. c.session_awaited.ensures h stands.clear_state.shows
