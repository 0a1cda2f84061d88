use Rattle.std.proofs.Common.{◌∙◌, sym, subst, ℕ, List}
use Rattle.psk_session.specs.Waiting.{IsNewest}
use Rattle.requester_core.proofs.SlotLaws.{finishing_never_rests, live_again, live_sends_none}
use Rattle.requester_core.specs.Slot.{IsSlotOf}
use Rattle.requester_core.specs.declared.in_sessions.slot.Slot.{Slot}
use Rattle.requester_core.proofs.in_sessions.slot.Slot.record.Goals as goal

pub returns-in-Live-clause-newest : goal.returns-in-Live-clause-newest
returns-in-Live-clause-newest c = λ psk s a is waits.
    subst (λ (bytes : List ℕ). IsNewest a bytes s) (sym c.again-in-Live.ensures.value) (live_again c.in-Live.session psk s a (subst (λ (x : Slot). IsSlotOf x psk s) c.in-Live.is is) waits)

pub returns-in-Live-clause-rest : goal.returns-in-Live-clause-rest
returns-in-Live-clause-rest c = λ psk s is rests. c.again-in-Live.ensures.value ∙ live_sends_none c.in-Live.session psk s (subst (λ (x : Slot). IsSlotOf x psk s) c.in-Live.is is) rests

pub returns-in-Finishing-clause-rest : goal.returns-in-Finishing-clause-rest
returns-in-Finishing-clause-rest c = λ psk s is rests. absurd (finishing_never_rests c.in-Finishing.state psk s (subst (λ (x : Slot). IsSlotOf x psk s) c.in-Finishing.is is) rests)
