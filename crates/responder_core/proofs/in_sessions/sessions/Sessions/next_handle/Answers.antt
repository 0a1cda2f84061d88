use Rattle.std.proofs.Common.{ap, sym}
use Rattle.responder_core.proofs.Shown.{in_slot, no_slot}
use Rattle.responder_core.proofs.in_sessions.sessions.Sessions.next_handle.Goals as goal
use Rattle.responder_core.specs.Sessions.{slot_of}
use Rattle.responder_machine.specs.LargeMessages.{next_handle}
use Rattle.responder_machine.specs.Session.{Events, session_of, turns_of}

pub returns-in-Some : goal.returns-in-Some
returns-in-Some c = λ r h stands.
    let s = session_of c.args.id h in
    let live = in_slot r s (slot_of c.args.self.now c.args.id) c.in-Some.live.now c.in-Some.ensures (stands.slots c.args.id) in
    c.next_handle.ensures r.psk s live.session

pub returns-in-None : goal.returns-in-None
returns-in-None c = λ r h stands. sym (ap (λ (s : Events). next_handle (turns_of s)) (no_slot r (session_of c.args.id h) (slot_of c.args.self.now c.args.id) c.in-None.ensures (stands.slots c.args.id)))
