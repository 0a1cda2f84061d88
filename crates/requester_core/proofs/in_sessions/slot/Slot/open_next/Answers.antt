use Rattle.std.proofs.Common.{subst}
use Rattle.requester_core.proofs.OwnSlots.{empty_accepted, finishing_opened, live_opened, opening_accepted}
use Rattle.requester_core.specs.Slot.{IsSlotOf}
use Rattle.requester_core.specs.declared.in_sessions.slot.Slot.{Slot}
use Rattle.requester_core.proofs.in_sessions.slot.Slot.open_next.Goals as goal

pub returns-in-Empty : goal.returns-in-Empty
returns-in-Empty c = λ psk s is took few. empty_accepted s (subst (λ (x : Slot). IsSlotOf x psk s) c.in-Empty.is is) took

pub returns-in-Opening : goal.returns-in-Opening
returns-in-Opening c = λ psk s is took few. opening_accepted c.in-Opening.field-0 psk s (subst (λ (x : Slot). IsSlotOf x psk s) c.in-Opening.is is) took

pub returns-in-Finishing : goal.returns-in-Finishing
returns-in-Finishing c = λ psk s is took few.
    let f = subst (λ (x : Slot). IsSlotOf x psk s) c.in-Finishing.is is in
    finishing_opened c.in-Finishing.state psk s c.args.sealed.now c.open_next.result c.open_next.new.out f
    (c.open_next.ensures.opened psk f.negotiation f.exchange f.answer f.pad f.stands)

pub returns-in-Live : goal.returns-in-Live
returns-in-Live c = λ psk s is took few.
    live_opened c.in-Live.session psk s c.args.sealed.now c.open_next-in-Live.result c.open_next-in-Live.new.out (subst (λ (x : Slot). IsSlotOf x psk s) c.in-Live.is is)
    (λ rests. c.open_next-in-Live.ensures.opened psk s rests) (λ a awaits. c.open_next-in-Live.ensures.awaiting psk s a awaits few)
