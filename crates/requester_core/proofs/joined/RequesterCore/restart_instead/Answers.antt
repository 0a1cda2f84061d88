use Rattle.requester_core.proofs.Started.{counted}
use Rattle.requester_core.proofs.TakenBack.{any_took}
use Rattle.requester_core.proofs.joined.RequesterCore.restart_instead.Goals as goal

pub returns : goal.returns
returns c = λ q bare sent f d took stands.
    c.connect.ensures q bare f d
    (counted c.undo_send.new.self bare (c.undo_send.ensures bare sent (any_took bare sent.aim took) stands.clear_state.shows))
    stands.gathers.max
