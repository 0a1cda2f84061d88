use Rattle.std.proofs.Common.{subst, sym}
use Rattle.std.specs.Prelude.{Some}
use Rattle.requester_core.proofs.TakenBack.{shows_before}
use Rattle.requester_core.specs.Outgoing as outgoing
use Rattle.requester_core.specs.ClearState.{Seen, Shows}
use Rattle.requester_machine.specs.Owed.{with_next}
use Rattle.requester_core.proofs.clear.clear_state.ClearState.undo_send.Goals as goal

pub returns : goal.returns
returns c = λ bare sent took shows.
    let before : Seen = record { negotiating = c.self.inside.negotiating; outgoing = c.self.inside.outgoing; brought = c.self.inside.brought } in
    let shown = subst (λ (s : Seen). Shows s (with_next (Some sent) bare)) (sym c.self.view_is) shows in
    subst (λ (o : outgoing.Seen). Shows (record before { outgoing = o }) bare) (sym c.undo_send.ensures) (shows_before bare sent before took shown)
