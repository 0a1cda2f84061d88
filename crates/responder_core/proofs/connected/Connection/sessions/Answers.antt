use Rattle.responder_core.proofs.Listed.{view_listed}
use Rattle.responder_core.proofs.connected.Connection.sessions.Goals as goal
use Rattle.responder_machine.specs.Session.{session_of}

pub returns : goal.returns
returns c = λ r h stands few.
    let first = view_listed c.view.result (session_of 1 h) (c.view.ensures r h stands few) in
    let second = view_listed c.view-2.result (session_of 2 h) (c.view-2.ensures r h stands few) in
    let third = view_listed c.view-3.result (session_of 3 h) (c.view-3.ensures r h stands few) in
    let fourth = view_listed c.view-4.result (session_of 4 h) (c.view-4.ensures r h stands few) in
    cc (c.of.ensures, first, second, third, fourth)
