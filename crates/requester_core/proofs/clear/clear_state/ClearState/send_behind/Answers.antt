use Rattle.std.proofs.Common.{refl, ◌≡◌, ◌∙◌, ap, subst, sym, Option, Some, None}
use Rattle.requester_core.proofs.NextPieces.{behind_last, last_is, sends_behind}
use Rattle.requester_core.specs.LargeRequests.{SendsPiece, piece_behind}
use Rattle.requester_core.specs.ClearState.{Seen, StandsFor}
use Rattle.negotiate.specs.declared.shared.Common.{Common}
use Rattle.requester_machine.specs.History.{connection_terms}
use Rattle.requester_machine.specs.Message.{Sent}
use Rattle.requester_core.proofs.clear.clear_state.ClearState.send_behind.Goals as goal

pub returns-then-is_last : goal.returns-then-is_last
returns-then-is_last c = λ q h sent request sizes stands is aims kinds.
    let before : Seen = record { negotiating = c.self.inside.negotiating; outgoing = c.self.inside.outgoing; brought = c.self.inside.brought } in
    let stood = subst (λ (s : Seen). StandsFor s q h) (sym c.self.view_is) stands in
    let transfer : (connection_terms h).common.to_responder.transfer ≡ c.common.result.now.to_responder.transfer = ap (λ (x : Common). x.to_responder.transfer) (stood.shows.negotiating.common ∙ sym c.common.ensures) in
    let last = sym (last_is q h sent request c.args.handle c.args.number sizes is aims before c.common.result.now.to_responder.transfer c.is_last.result stood transfer c.is_last.ensures) ∙ c.if-is_last.true in
    subst (λ (o : Option Sent). SendsPiece q h o None c.args.out.now c.args.self.now c.args.self.now) (sym (behind_last q h sent request c.args.handle c.args.number sizes is aims last)) refl

pub returns : goal.returns
returns c = λ q h sent request sizes stands is aims kinds.
    let before : Seen = record { negotiating = c.self.inside.negotiating; outgoing = c.self.inside.outgoing; brought = c.self.inside.brought } in
    let stood = subst (λ (s : Seen). StandsFor s q h) (sym c.self.view_is) stands in
    let transfer : (connection_terms h).common.to_responder.transfer ≡ c.common.result.now.to_responder.transfer = ap (λ (x : Common). x.to_responder.transfer) (stood.shows.negotiating.common ∙ sym c.common.ensures) in
    let more = sym (last_is q h sent request c.args.handle c.args.number sizes is aims before c.common.result.now.to_responder.transfer c.is_last.result stood transfer c.is_last.ensures) ∙ c.if-is_last.false in
    subst (λ (s : Seen). SendsPiece q h (piece_behind h sent.aim) (Some c.send.result) c.send.new.out s (record before { outgoing = c.send.new.self })) c.self.view_is
    (sends_behind q h sent request c.args.handle c.args.number sizes is aims c.args.asked before c.send.new.self c.send.result c.send.new.out c.common.result.now.to_responder.transfer c.saturating_add.result kinds stood transfer more
    c.saturating_add.ensures c.send.ensures.fits c.send.ensures.tag c.send.ensures.new c.send.ensures.out)
