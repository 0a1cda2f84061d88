use Rattle.std.proofs.Common.{◌≡◌, ◌∙◌, ap, subst, sym, ℕ, List}
use Rattle.requester_core.proofs.Awaited.{again, in_clear, in_session, kept_request, nothing_again, nothing_waits, written}
use Rattle.requester_core.specs.Outgoing.{IsCut, message_for}
use Rattle.requester_core.specs.ClearState.{Seen, StandsFor}
use Rattle.negotiate.specs.declared.shared.Common.{Common}
use Rattle.requester_machine.specs.History.{connection_terms, outstanding}
use Rattle.requester_machine.specs.Message.Content.{Clear}
use Rattle.requester_core.proofs.clear.clear_state.ClearState.retry.Goals as goal

pub returns-in-Nothing : goal.returns-in-Nothing
returns-in-Nothing c = λ q h f d sizes stands.
    let before : Seen = record { negotiating = c.self.inside.negotiating; outgoing = c.self.inside.outgoing; brought = c.self.inside.brought } in
    let stood = subst (λ (s : Seen). StandsFor s q h) (sym c.self.view_is) stands in
    nothing_again q h f d (nothing_waits (outstanding h) (c.in-Nothing.ensures ∙ stood.shows.outgoing.waiting))

pub returns-in-InSession : goal.returns-in-InSession
returns-in-InSession c = λ q h f d sizes stands.
    let before : Seen = record { negotiating = c.self.inside.negotiating; outgoing = c.self.inside.outgoing; brought = c.self.inside.brought } in
    let stood = subst (λ (s : Seen). StandsFor s q h) (sym c.self.view_is) stands in
    let waits = in_session (outstanding h) c.in-InSession.tag c.in-InSession.id (c.in-InSession.ensures ∙ stood.shows.outgoing.waiting) in
    (record { sent = waits.sent; outcome = again q h f d waits.sent waits.is; tag_is = waits.tag_is }, waits.of)

pub returns-in-InClear : goal.returns-in-InClear
returns-in-InClear c = λ q h f d sizes stands.
    let before : Seen = record { negotiating = c.self.inside.negotiating; outgoing = c.self.inside.outgoing; brought = c.self.inside.brought } in
    let stood = subst (λ (s : Seen). StandsFor s q h) (sym c.self.view_is) stands in
    let mode = c.in-InClear.mode in
    let waits = in_clear (outstanding h) c.in-InClear.tag c.in-InClear.asked mode (c.in-InClear.ensures ∙ stood.shows.outgoing.waiting) in
    let shown = written q h c.in-InClear.tag c.in-InClear.asked mode sizes stood.holds stood.shows.up_to waits in
    let bytes = kept_request (outstanding h) c.in-InClear.tag c.in-InClear.asked mode before.outgoing.request waits stood.shows.outgoing.request in
    let transfer : (connection_terms h).common.to_responder.transfer ≡ c.common.result.now.to_responder.transfer =
    ap (λ (x : Common). x.to_responder.transfer) (stood.shows.negotiating.common ∙ sym c.common.ensures) in
    let cut = subst (λ (n : ℕ). IsCut mode n before.outgoing.request) transfer (subst (λ (m : List ℕ). IsCut mode (connection_terms h).common.to_responder.transfer m) (sym bytes) shown.1) in
    let out = c.write.ensures.out cut in (
      record { sent = waits.sent; outcome = again q h f d waits.sent waits.is; tag_is = waits.tag_is },
      shown.0 ∙ ap Clear (ap (message_for mode (connection_terms h).common.to_responder.transfer) (sym bytes) ∙ ap (λ (n : ℕ). message_for mode n before.outgoing.request) transfer ∙ sym out),
    )
