use Rattle.responder_core.proofs.Shown.{in_slot, no_slot}
use Rattle.responder_core.proofs.in_sessions.sessions.Sessions.silence.Goals as goal
use Rattle.responder_core.specs.Sessions.{slot_of}
use Rattle.responder_machine.specs.Session.{session_of}

pub returns-in-Some : goal.returns-in-Some
returns-in-Some c = λ r h stands.
    let live = in_slot r (session_of c.args.id h) (slot_of c.args.self.now c.args.id) c.in-Some.live.now c.in-Some.ensures (stands.slots c.args.id) in
    (live.session.keeps.live, live.idle, live.period)

pub returns-in-None : goal.returns-in-None
returns-in-None c = λ r h stands. no_slot r (session_of c.args.id h) (slot_of c.args.self.now c.args.id) c.in-None.ensures (stands.slots c.args.id)
