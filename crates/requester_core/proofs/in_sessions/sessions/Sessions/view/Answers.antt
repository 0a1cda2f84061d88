use Rattle.requester_core.proofs.SessionsRecorded.{few_taken}
use Rattle.requester_machine.specs.History.{outstanding}
use Rattle.requester_machine.specs.Order.{waits_for}
use Rattle.requester_machine.specs.Session.{session_of}
use Rattle.requester_core.proofs.in_sessions.sessions.Sessions.view.Goals as goal

pub returns : goal.returns
returns c = λ q h stands short.
    let id = c.args.id in
    let order = stands.orders id in
    c.view_at.ensures q.psk (waits_for id (outstanding h)) (session_of id h) (stands.slots id) order.ordered order.fits (few_taken h id short)
