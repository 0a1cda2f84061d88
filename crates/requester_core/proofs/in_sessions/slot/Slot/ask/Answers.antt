use Rattle.std.proofs.Common.{subst}
use Rattle.requester_core.proofs.SlotLaws.{live_rests}
use Rattle.requester_core.specs.Slot.{IsSlotOf}
use Rattle.requester_core.specs.declared.in_sessions.slot.Slot.{Slot}
use Rattle.requester_core.proofs.in_sessions.slot.Slot.ask.Goals as goal

pub returns-in-Live : goal.returns-in-Live
returns-in-Live c = λ psk s is fits few.
    c.ask_of.ensures psk s (live_rests c.in-Live.session psk s (subst (λ (x : Slot). IsSlotOf x psk s) c.in-Live.is is) fits) few
