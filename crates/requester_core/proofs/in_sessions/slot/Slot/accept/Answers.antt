use Rattle.std.proofs.Common.{refl, subst}
use Rattle.requester_core.proofs.SlotLaws.{accepts, opened, refuses}
use Rattle.requester_core.specs.Slot.{IsSlotOf}
use Rattle.requester_core.specs.declared.in_sessions.slot.Slot.{Slot}
use Rattle.psk_session.specs.Opening.{started}
use Rattle.requester_core.proofs.in_sessions.slot.Slot.accept.Goals as goal

pub returns-in-Ok : goal.returns-in-Ok
returns-in-Ok c = λ psk n exchange is.
    let stands = opened c.in-Opening.state psk n exchange (subst (λ (x : Slot). IsSlotOf x psk (started n exchange)) c.in-Opening.is is) in
    accepts psk n exchange c.args.answer.now c.args.pad.now c.in-Ok.state (c.in-Ok.ensures psk n exchange stands)

pub returns-in-Err : goal.returns-in-Err
returns-in-Err c = λ psk n exchange is.
    let stands = opened c.in-Opening.state psk n exchange (subst (λ (x : Slot). IsSlotOf x psk (started n exchange)) c.in-Opening.is is) in
    refuses psk n exchange c.args.answer.now c.args.pad.now c.in-Opening.state c.in-Opening.state c.in-Err.fault (c.in-Err.ensures psk n exchange stands) refl stands
