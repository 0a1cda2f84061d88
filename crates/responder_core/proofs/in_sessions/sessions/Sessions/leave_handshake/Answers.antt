use Rattle.std.proofs.Common.{refl}
use Rattle.responder_core.proofs.UnseenRequests.{sessions_leave}
use Rattle.responder_core.proofs.in_sessions.sessions.Sessions.leave_handshake.Goals as goal

pub returns : goal.returns
returns c = λ r h tag t d u exchange stands.
    sessions_leave t u r tag d h c.args.self.now c.leave.new.self c.leave-2.new.self c.leave-3.new.self c.leave-4.new.self _ exchange stands
    (record { own = c.leave.ensures.own r; others = c.leave.ensures.others })
    (record { own = c.leave-2.ensures.own r; others = c.leave-2.ensures.others })
    (record { own = c.leave-3.ensures.own r; others = c.leave-3.ensures.others })
    (record { own = c.leave-4.ensures.own r; others = c.leave-4.ensures.others })
    (λ id. refl) c.clear.ensures
