use Rattle.responder_core.proofs.Shown.{in_slot, no_slot, taken_few, viewed}
use Rattle.responder_core.proofs.in_sessions.sessions.Sessions.view.Goals as goal
use Rattle.responder_core.specs.Sessions.{slot_of}
use Rattle.responder_machine.specs.Session.{session_of}

pub returns-in-Some : goal.returns-in-Some
returns-in-Some c = λ r h stands few.
    let s = session_of c.args.id h in
    let live = in_slot r s (slot_of c.args.self.now c.args.id) c.in-Some.live.now c.in-Some.ensures (stands.slots c.args.id) in
    viewed c.view.result s live.session.keeps.live (c.view.ensures.shown r.psk s live.session (taken_few h c.args.id few))

pub returns-in-None : goal.returns-in-None
returns-in-None c = λ r h stands few. no_slot r (session_of c.args.id h) (slot_of c.args.self.now c.args.id) c.in-None.ensures (stands.slots c.args.id)
