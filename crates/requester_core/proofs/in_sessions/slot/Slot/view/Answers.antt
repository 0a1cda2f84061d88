use Rattle.std.proofs.Common.{subst}
use Rattle.requester_core.proofs.SlotLaws.{live_shown}
use Rattle.requester_core.specs.Slot.{IsSlotOf}
use Rattle.requester_core.specs.declared.in_sessions.slot.Slot.{Slot}
use Rattle.requester_core.proofs.in_sessions.slot.Slot.view.Goals as goal

pub returns-in-Live : goal.returns-in-Live
returns-in-Live c = λ psk w s is ordered fits taken.
    live_shown c.in-Live.session psk w s c.view-in-Live.result (subst (λ (x : Slot). IsSlotOf x psk s) c.in-Live.is is) ordered fits
    (λ rests. c.view-in-Live.ensures.opened psk s rests taken) (λ a awaits. c.view-in-Live.ensures.awaiting psk s a awaits taken)
