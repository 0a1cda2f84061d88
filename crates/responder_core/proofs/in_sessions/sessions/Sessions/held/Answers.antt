use Rattle.responder_core.proofs.Shown.{held_is}
use Rattle.responder_core.proofs.in_sessions.sessions.Sessions.held.Goals as goal
use Rattle.responder_machine.specs.Place.{is_held}
use Rattle.responder_machine.specs.Session.{session_of}
use Rattle.std.proofs.Common.{◌∙◌, ap}
use Rattle.spdm_machine.specs.Sessions.{one_if}

pub returns-clause-value : goal.returns-clause-value
returns-clause-value c = λ r h stands.
    held_is c.one_if.result c.one_if-2.result c.one_if-3.result c.one_if-4.result (is_held h 1) (is_held h 2) (is_held h 3) (is_held h 4)
    (c.one_if.ensures.value ∙ ap one_if (c.is_held.ensures r (session_of 1 h) (stands.slots 1)))
    (c.one_if-2.ensures.value ∙ ap one_if (c.is_held-2.ensures r (session_of 2 h) (stands.slots 2)))
    (c.one_if-3.ensures.value ∙ ap one_if (c.is_held-3.ensures r (session_of 3 h) (stands.slots 3)))
    (c.one_if-4.ensures.value ∙ ap one_if (c.is_held-4.ensures r (session_of 4 h) (stands.slots 4)))
