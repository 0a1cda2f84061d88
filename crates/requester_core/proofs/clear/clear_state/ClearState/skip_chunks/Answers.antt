use Rattle.std.proofs.Common.{◌∷◌, subst, sym}
use Rattle.std.specs.Prelude.{Some}
use Rattle.requester_core.proofs.BrokenOff.{owed_begins, passed, told_begins}
use Rattle.requester_core.specs.Outgoing as outgoing
use Rattle.requester_core.specs.ClearState.{Counts, Seen, Shows}
use Rattle.requester_machine.specs.History.Entry.{Told}
use Rattle.requester_machine.specs.Owed.{with_next}
use Rattle.requester_core.proofs.clear.clear_state.ClearState.skip_chunks.Goals as goal

pub returns-clause-told : goal.returns-clause-told
returns-clause-told c = λ h over command first d none shows large is.
    let before : Seen = record { negotiating = c.self.inside.negotiating; outgoing = c.self.inside.outgoing; brought = c.self.inside.brought } in
    let shown = subst (λ (s : Seen). Shows s h) (sym c.self.view_is) (c.take_back_owed.ensures.none h none shows) in
    subst (λ (o : outgoing.Seen). Counts (record before { outgoing = o }) over) (sym c.skip_chunks.ensures)
    (passed (Told command first d ∷ h) over c.args.number before (told_begins h command first d before large shown) is)

pub returns-clause-owed : goal.returns-clause-owed
returns-clause-owed c = λ bare over sent first took shows large is.
    let before : Seen = record { negotiating = c.self.inside.negotiating; outgoing = c.self.inside.outgoing; brought = c.self.inside.brought } in
    let shown = subst (λ (s : Seen). Shows s bare) (sym c.self.view_is) (c.take_back_owed.ensures.owed bare sent took shows) in
    subst (λ (o : outgoing.Seen). Counts (record before { outgoing = o }) over) (sym c.skip_chunks.ensures)
    (passed (with_next (Some first) bare) over c.args.number before (owed_begins bare first before took large shown) is)
