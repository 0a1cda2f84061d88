use Rattle.std.proofs.Common.{◌∙◌, ap, sym}
use Rattle.responder_core.proofs.Shown.{in_slot, no_slot, timed_live}
use Rattle.responder_core.proofs.in_sessions.sessions.Sessions.is_timed.Goals as goal
use Rattle.responder_core.specs.Sessions.{is_timed_in, slot_of}
use Rattle.responder_machine.specs.Session.{session_of}

pub returns-in-Some : goal.returns-in-Some
returns-in-Some c = λ r h stands.
    let s = session_of c.args.id h in
    let live = in_slot r s (slot_of c.args.self.now c.args.id) c.in-Some.live.now c.in-Some.ensures (stands.slots c.args.id) in
    c.is_timed.ensures r s live ∙ timed_live s live.session.keeps.live

pub returns-in-None : goal.returns-in-None
returns-in-None c = λ r h stands. sym (ap is_timed_in (no_slot r (session_of c.args.id h) (slot_of c.args.self.now c.args.id) c.in-None.ensures (stands.slots c.args.id)))
