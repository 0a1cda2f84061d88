use Rattle.std.proofs.Common.{refl, subst, sym, None}
use Rattle.requester_core.proofs.InSession.{settled}
use Rattle.requester_core.specs.ClearState.{Seen, StandsFor}
use Rattle.requester_core.proofs.clear.clear_state.ClearState.clear_outstanding.Goals as goal

pub returns : goal.returns
returns c = λ q h owner tag body f d entry stands settles none.
    let before : Seen = record { negotiating = c.self.inside.negotiating; outgoing = c.self.inside.outgoing; brought = c.self.inside.brought } in
    let stood = subst (λ (s : Seen). StandsFor s q h) (sym c.self.view_is) stands in
    settled q h owner tag body f d entry before c.clear_outstanding.new.self before.brought None stood settles none c.clear_outstanding.ensures refl
