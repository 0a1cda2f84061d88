use Rattle.std.proofs.Common.{[], subst, sym, List, ℕ}
use Rattle.requester_core.proofs.Started.{fresh, nothing_stands}
use Rattle.requester_core.specs.Negotiating as negotiating
use Rattle.requester_core.specs.Outgoing as outgoing
use Rattle.requester_core.specs.ClearState.{StandsFor}
use Rattle.requester_core.specs.declared.clear.outstanding.Outstanding.TheVariants as waits
use Rattle.requester_core.proofs.clear.clear_state.ClearState.new.Goals as goal

pub returns : goal.returns
returns c = λ q.
    subst (λ (n : negotiating.Seen). StandsFor (record { negotiating = n; outgoing = c.new-2.result; brought = c.new-3.result }) q []) (sym c.new.ensures)
    (subst (λ (o : outgoing.Seen). StandsFor (record { negotiating = fresh; outgoing = o; brought = c.new-3.result }) q []) (sym c.new-2.ensures)
    (subst (λ (b : List ℕ). StandsFor (record { negotiating = fresh; outgoing = record { tag = 0; handle = 0; waiting = waits.Nothing; request = [] }; brought = b }) q []) (sym c.new-3.ensures) (nothing_stands q)))
