use Rattle.std.proofs.Common.{◌∙◌, ap, subst, sym}
use Rattle.requester_core.proofs.Taken.{clear_way}
use Rattle.requester_core.specs.ClearState.{Seen, StandsFor}
use Rattle.requester_core.specs.Outstanding.{waiting_of}
use Rattle.requester_core.proofs.clear.clear_state.ClearState.on_outstanding.Goals as goal

pub returns-in-InClear : goal.returns-in-InClear
returns-in-InClear c = λ q h sent request setup stands waits gathers asks short.
    let before : Seen = record { negotiating = c.self.inside.negotiating; outgoing = c.self.inside.outgoing; brought = c.self.inside.brought } in
    let stood = subst (λ (s : Seen). StandsFor s q h) (sym c.self.view_is) stands in
    let is = clear_way sent request c.in-InClear.tag c.in-InClear.asked c.in-InClear.mode asks (c.in-InClear.ensures ∙ stood.shows.outgoing.waiting ∙ ap waiting_of waits) in
    c.on_transfer.ensures q h sent request setup stands waits gathers asks is.0 is.1 short
