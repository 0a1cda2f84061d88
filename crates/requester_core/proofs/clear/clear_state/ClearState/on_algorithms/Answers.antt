use Rattle.std.proofs.Common.{refl, ◌≡◌, ◌∙◌, ap, subst, sym, Option, Some, None}
use Rattle.std.proofs.lemmas.Option.{same_Some}
use Rattle.std.specs.Prelude.{Ok}
use Rattle.requester_core.proofs.Leading.{algorithms_stand, own_offer_is, rest_follows}
use Rattle.requester_core.specs.ReplyOutcome.{IsLed}
use Rattle.requester_core.specs.ClearState.{Seen, Shows}
use Rattle.negotiate.specs.Choosing.{agreed}
use Rattle.negotiate.specs.Offer.{offer_of}
use Rattle.negotiate.specs.declared.shared.Common.{Common}
use Rattle.requester_machine.specs.Answers.{algorithms_led, is_done}
use Rattle.requester_machine.specs.History.{Effect, Led, connection_terms, negotiation_of, phase_of}
use Rattle.requester_machine.specs.History.Effect.{Answers}
use Rattle.spdm_grammar.specs.Message.{OfferMessage, ReplyMessage, offer_message, reply_message}
use Rattle.spdm_grammar.specs.Message.RequestMessage.{NegotiateAlgorithms}
use Rattle.spdm_grammar.specs.Requests.{IsSoundOffer, canonical_request}
use Rattle.spdm_grammar.specs.declared.messages.choice.Choice.{Choice}
use Rattle.spdm_grammar.specs.declared.messages.choice.Suites.{Suites}
use Rattle.spdm_grammar.specs.declared.told.event.Event.TheVariants as event
use Rattle.spdm_grammar.specs.declared.told.event.Finished.TheVariants as finished
use Rattle.requester_core.proofs.clear.clear_state.ClearState.on_algorithms.Goals as goal

pub returns-in_default-agrees : goal.returns-in_default-agrees
returns-in_default-agrees c = λ q h offer out setup shows keeps up offered short reads.
    let before : Seen = record { negotiating = c.self.inside.negotiating; outgoing = c.self.inside.outgoing; brought = c.self.inside.brought } in
    let shown = subst (λ (s : Seen). Shows s h) (sym c.self.view_is) shows in
    let reply : ReplyMessage = reply_message c.args.reply.now in
    let same : offer_message c.in-Some.offer ≡ offer =
    same_Some (offer_message c.in-Some.offer) offer (c.in-Some.ensures.value ∙ ap (λ (s : Suites). offer_of s c.common.result.now.to_responder.transfer) (sym setup.suites)
    ∙ ap (λ (x : Common). offer_of q.suites x.to_responder.transfer) (c.common.ensures ∙ sym shown.negotiating.common) ∙ offered) in
    let none : None ≡ agreed offer reply = c.in_default-agrees.ensures ∙ ap (λ (o : OfferMessage). agreed o reply) same in
    subst (λ (x : Option Choice). IsLed h (Ok (algorithms_led (Answers (NegotiateAlgorithms offer) c.args.answer.now) x)) c.stop-in_default-agrees.result c.args.self.now c.stop-in_default-agrees.new.self out) none (c.stop-in_default-agrees.ensures h out shows)

pub returns : goal.returns
returns c = λ q h offer out setup shows keeps up offered short reads.
    let before : Seen = record { negotiating = c.self.inside.negotiating; outgoing = c.self.inside.outgoing; brought = c.self.inside.brought } in
    let shown = subst (λ (s : Seen). Shows s h) (sym c.self.view_is) shows in
    let kept = subst (λ (s : Seen). s.outgoing.request ≡ canonical_request (NegotiateAlgorithms offer)) (sym c.self.view_is) keeps in
    let answer = c.args.answer.now in
    let reply : ReplyMessage = reply_message c.args.reply.now in
    let effect : Effect = Answers (NegotiateAlgorithms offer) answer in
    let same : offer_message c.in-Some.offer ≡ offer =
    same_Some (offer_message c.in-Some.offer) offer (c.in-Some.ensures.value ∙ ap (λ (s : Suites). offer_of s c.common.result.now.to_responder.transfer) (sym setup.suites)
    ∙ ap (λ (x : Common). offer_of q.suites x.to_responder.transfer) (c.common.ensures ∙ sym shown.negotiating.common) ∙ offered) in
    let chooses : Some c.in-Ok.choice ≡ agreed offer reply = c.in-Ok.ensures ∙ ap (λ (o : OfferMessage). agreed o reply) same in
    let own = own_offer_is q.suites (connection_terms h).common.to_responder.transfer offer offered in
    let sound = subst IsSoundOffer same c.in-Some.ensures.sound in
    let negotiated = algorithms_stand before.negotiating c.take_algorithms.new.self (phase_of h) (negotiation_of h) offer reply c.in-Ok.choice c.request.result.now answer shown.negotiating up own sound (c.request.ensures.value ∙ kept) short reads (sym chooses) c.take_algorithms.ensures in (
      is_done finished.Connected effect,
      ap (λ (l : Led). Ok l) (ap (algorithms_led effect) (sym chooses)),
      record { event = refl; next = refl; follows = rest_follows h effect (event.Done finished.Connected) before c.take_algorithms.new.self c.clear_outstanding.new.self before.brought shown negotiated c.clear_outstanding.ensures shown.brought },
    )
