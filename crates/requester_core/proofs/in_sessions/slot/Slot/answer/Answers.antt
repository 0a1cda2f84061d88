use Rattle.std.proofs.Common.{subst, sym}
use Rattle.requester_core.proofs.SlotLaws.{empty_asks, opening_asks}
use Rattle.requester_core.specs.Slot.{IsFinishingSlot, IsSlotOf}
use Rattle.requester_core.specs.declared.in_sessions.slot.Slot.{Slot}
use Rattle.requester_core.proofs.in_sessions.slot.Slot.answer.Goals as goal

pub returns-in-Empty : goal.returns-in-Empty
returns-in-Empty c = λ psk s a is waits few taken. empty_asks s a (subst (λ (x : Slot). IsSlotOf x psk s) c.in-Empty.is is) waits

pub returns-in-Opening : goal.returns-in-Opening
returns-in-Opening c = λ psk s a is waits few taken. opening_asks c.in-Opening.field-0 psk s a (subst (λ (x : Slot). IsSlotOf x psk s) c.in-Opening.is is) waits

pub returns-in-Finishing : goal.returns-in-Finishing
returns-in-Finishing c = λ psk s a is waits few taken.
    c.finish.ensures psk s a c.args.pad.now
    (subst (λ (x : Slot). IsFinishingSlot x psk s) (sym c.in-Finishing.is) (subst (λ (x : Slot). IsSlotOf x psk s) c.in-Finishing.is is)) waits
