use Rattle.std.proofs.Common.{◌∙◌, subst}
use Rattle.requester_core.proofs.SlotLaws.{live_asked, live_data}
use Rattle.requester_core.specs.Slot.{IsSlotOf}
use Rattle.requester_core.specs.declared.in_sessions.slot.Slot.{Slot}
use Rattle.requester_core.proofs.in_sessions.slot.Slot.data.Goals as goal

pub returns-in-Live-clause-rest : goal.returns-in-Live-clause-rest
returns-in-Live-clause-rest c = λ psk s is rests. c.data.ensures ∙ live_data c.in-Live.session psk s (subst (λ (x : Slot). IsSlotOf x psk s) c.in-Live.is is) rests

pub returns-in-Live-clause-asked : goal.returns-in-Live-clause-asked
returns-in-Live-clause-asked c = λ psk s a is waits. c.data.ensures ∙ live_asked c.in-Live.session psk s a (subst (λ (x : Slot). IsSlotOf x psk s) c.in-Live.is is) waits
