use Rattle.std.proofs.Common.{subst}
use Rattle.requester_core.proofs.OwnSlots.{empty_last, finishing_repadded, live_last, live_repadded, opening_last}
use Rattle.requester_core.specs.Slot.{IsSlotOf}
use Rattle.requester_core.specs.declared.in_sessions.slot.Slot.{Slot}
use Rattle.psk_session.specs.Course.{with_asked}
use Rattle.requester_core.proofs.in_sessions.slot.Slot.take_padded.Goals as goal

pub returns-in-Empty-clause-repadded : goal.returns-in-Empty-clause-repadded
returns-in-Empty-clause-repadded c = λ psk s a inner pad is. empty_last psk s a inner pad (subst (λ (x : Slot). IsSlotOf x psk (with_asked psk s a inner pad)) c.in-Empty.is is)

pub returns-in-Opening-clause-repadded : goal.returns-in-Opening-clause-repadded
returns-in-Opening-clause-repadded c = λ psk s a inner pad is. opening_last c.in-Opening.field-0 psk s a inner pad (subst (λ (x : Slot). IsSlotOf x psk (with_asked psk s a inner pad)) c.in-Opening.is is)

pub returns-in-Finishing-clause-repadded : goal.returns-in-Finishing-clause-repadded
returns-in-Finishing-clause-repadded c = λ psk s a inner pad is.
    let f = subst (λ (x : Slot). IsSlotOf x psk (with_asked psk s a inner pad)) c.in-Finishing.is is in
    finishing_repadded c.take_padded.new.self c.in-Finishing.state psk s a inner pad c.args.sealed.now c.take_padded.result f
    (c.take_padded.ensures.repadded psk f.negotiation f.exchange f.answer f.pad f.stands)

pub returns-in-Live-clause-repadded : goal.returns-in-Live-clause-repadded
returns-in-Live-clause-repadded c = λ psk s a inner pad is.
    live_repadded c.take_padded-in-Live.new.self psk s a inner c.args.sealed.now c.take_padded-in-Live.result
    (c.take_padded-in-Live.ensures.repadded psk s a inner pad (live_last c.in-Live.session psk s a inner pad (subst (λ (x : Slot). IsSlotOf x psk (with_asked psk s a inner pad)) c.in-Live.is is)))
