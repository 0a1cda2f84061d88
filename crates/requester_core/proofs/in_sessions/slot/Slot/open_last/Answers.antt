use Rattle.std.proofs.Common.{List, ℕ, subst}
use Rattle.requester_core.proofs.OwnSlots.{empty_last, finishing_last, live_last, opening_last}
use Rattle.requester_core.specs.Slot.{IsSlotOf}
use Rattle.requester_core.specs.declared.in_sessions.slot.Slot.{Slot}
use Rattle.psk_session.specs.Course.{with_asked}
use Rattle.psk_session.specs.OwnRecords.{IsOwnOpened}
use Rattle.requester_machine.specs.Message.{Ask}
use Rattle.requester_machine.specs.Session.{Steps}
use Rattle.requester_core.proofs.in_sessions.slot.Slot.open_last.Goals as goal

pub returns-in-Empty : goal.returns-in-Empty
returns-in-Empty c = λ psk s a inner pad is. empty_last psk s a inner pad (subst (λ (x : Slot). IsSlotOf x psk (with_asked psk s a inner pad)) c.in-Empty.is is)

pub returns-in-Opening : goal.returns-in-Opening
returns-in-Opening c = λ psk s a inner pad is. opening_last c.in-Opening.field-0 psk s a inner pad (subst (λ (x : Slot). IsSlotOf x psk (with_asked psk s a inner pad)) c.in-Opening.is is)

pub returns-in-Finishing : goal.returns-in-Finishing
returns-in-Finishing c = λ psk s a inner pad is.
    let f = subst (λ (x : Slot). IsSlotOf x psk (with_asked psk s a inner pad)) c.in-Finishing.is is in
    finishing_last c.in-Finishing.state psk s a inner pad f (λ (t : Steps) (ask : Ask) (m : List ℕ). IsOwnOpened psk t c.args.sealed.now c.open_last.result c.open_last.new.out)
    (c.open_last.ensures.opened psk f.negotiation f.exchange f.answer f.pad f.stands)

pub returns-in-Live : goal.returns-in-Live
returns-in-Live c = λ psk s a inner pad is.
    c.open_last-in-Live.ensures.opened psk s a inner pad (live_last c.in-Live.session psk s a inner pad (subst (λ (x : Slot). IsSlotOf x psk (with_asked psk s a inner pad)) c.in-Live.is is))
