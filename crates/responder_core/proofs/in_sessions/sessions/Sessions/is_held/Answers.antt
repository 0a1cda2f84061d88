use Rattle.std.proofs.Common.{◌∙◌}
use Rattle.responder_core.proofs.Shown.{held_live, held_none, in_slot, no_slot}
use Rattle.responder_core.proofs.in_sessions.sessions.Sessions.is_held.Goals as goal
use Rattle.responder_core.specs.Sessions.{slot_of}

pub returns-in-Some : goal.returns-in-Some
returns-in-Some c = λ r s slot.
    let live = in_slot r s (slot_of c.args.self.now c.args.id) c.in-Some.live.now c.in-Some.ensures slot in
    c.is_held.ensures r s live ∙ held_live s live.session.keeps.live

pub returns-in-None : goal.returns-in-None
returns-in-None c = λ r s slot. held_none s (no_slot r s (slot_of c.args.self.now c.args.id) c.in-None.ensures slot)
