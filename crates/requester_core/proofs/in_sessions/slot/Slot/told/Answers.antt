use Rattle.std.proofs.Common.{subst}
use Rattle.requester_core.proofs.SlotTold.{finishing_told, live_told, none_told}
use Rattle.requester_core.specs.Slot.{IsSlotOf}
use Rattle.requester_core.specs.declared.in_sessions.slot.Slot.{Slot}
use Rattle.requester_core.proofs.in_sessions.slot.Slot.told.Goals as goal

pub returns-in-Empty : goal.returns-in-Empty
returns-in-Empty c = λ psk s is. none_told c.args.self.now psk s c.in-Empty.is is

pub returns-in-Finishing : goal.returns-in-Finishing
returns-in-Finishing c = λ psk s is.
    finishing_told c.in-Finishing.state psk s _ (subst (λ (x : Slot). IsSlotOf x psk s) c.in-Finishing.is is) c.told.ensures

pub returns-in-Live : goal.returns-in-Live
returns-in-Live c = λ psk s is.
    live_told c.in-Live.session psk s _ (subst (λ (x : Slot). IsSlotOf x psk s) c.in-Live.is is) c.told-in-Live.ensures
