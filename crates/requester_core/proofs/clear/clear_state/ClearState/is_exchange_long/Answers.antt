use Rattle.std.proofs.Common.{◌∙◌, ap, subst, sym}
use Rattle.requester_core.proofs.Started.{exchange_long}
use Rattle.requester_core.specs.ClearState.{Seen, Shows}
use Rattle.negotiate.specs.declared.shared.Common.{Common}
use Rattle.requester_machine.specs.Commands.{exchange_for}
use Rattle.requester_machine.specs.Sending.{is_too_long}
use Rattle.spdm_grammar.specs.Requests.{canonical_request}
use Rattle.requester_core.proofs.clear.clear_state.ClearState.is_exchange_long.Goals as goal

pub returns : goal.returns
returns c = λ q h f summary setup free allowed shows.
    let before : Seen = record { negotiating = c.self.inside.negotiating; outgoing = c.self.inside.outgoing; brought = c.self.inside.brought } in
    let shown = subst (λ (s : Seen). Shows s h) (sym c.self.view_is) shows in
    let long = exchange_long q f summary c.args.setup.now c.args.free.now setup free allowed.exchange in
    c.is_too_long.ensures (canonical_request (exchange_for q f summary)) (long.1 ∙ sym (c.exchange_len.ensures long.0))
    ∙ ap (λ (x : Common). is_too_long x (canonical_request (exchange_for q f summary))) (c.common.ensures ∙ sym shown.negotiating.common)
