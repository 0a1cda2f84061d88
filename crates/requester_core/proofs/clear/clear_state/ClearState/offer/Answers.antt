use Rattle.std.proofs.Common.{refl, ◌≡◌, ◌∙◌, ap, subst, sym, ℕ, Option, Some, None, Bool, length, arith}
use Rattle.std.specs.Prelude.{if◌then◌else◌, Ok, nat_lt}
use Rattle.requester_core.proofs.Leading.{capabilities_stand, next_led, own_offer_is, request_no_get}
use Rattle.requester_machine.proofs.ResponseLengths.{capabilities_long}
use Rattle.requester_core.proofs.Started.{common_room}
use Rattle.requester_core.specs.ReplyOutcome.{IsLed}
use Rattle.requester_core.specs.Outgoing as outgoing
use Rattle.requester_core.specs.ClearState.{Seen, Shows}
use Rattle.negotiate.specs.Capabilities.{common_of}
use Rattle.negotiate.specs.Offer.{offer_of}
use Rattle.requester_machine.proofs.CapsRead.{common_is}
use Rattle.requester_machine.proofs.Entries.{request_sent-asks}
use Rattle.requester_machine.specs.Answers.{goes_on, offer_led, stopped}
use Rattle.requester_machine.specs.History.{Effect, Led, connection_terms, negotiation_of, next_handle, phase_of}
use Rattle.requester_machine.specs.History.Effect.{Answers}
use Rattle.requester_machine.specs.Sending.{request_sent}
use Rattle.spdm_grammar.specs.Message.{OfferMessage, offer_message}
use Rattle.spdm_grammar.specs.Message.RequestMessage.{GetCapabilities, NegotiateAlgorithms}
use Rattle.spdm_grammar.specs.Requests.{canonical_request}
use Rattle.spdm_grammar.specs.declared.messages.capabilities.Caps.{Caps}
use Rattle.spdm_grammar.specs.declared.messages.choice.Suites.{Suites}
use Rattle.spdm_grammar.specs.declared.told.event.Stop.TheVariants as stop
use Rattle.spdm_machine.specs.Terms.{hash_len}
use Rattle.requester_core.proofs.clear.clear_state.ClearState.offer.Goals as goal
use Rattle.spdm_machine.proofs.Settling.{capabilities_up}

pub returns-in_default : goal.returns-in_default
returns-in_default c = λ q h caps theirs setup shows own keeps up reads shared.
    let transfer : ℕ = c.args.common.to_responder.transfer in
    let none : None ≡ offer_of q.suites transfer = c.in_default.ensures.value ∙ ap (λ (s : Suites). offer_of s transfer) (sym setup.suites) in
    subst (λ (o : Option OfferMessage). IsLed h (Ok (offer_led h (Answers (GetCapabilities caps) c.args.answer.now) c.args.common o)) c.stop.result c.args.self.now c.stop.new.self c.args.out.now) none (c.stop.ensures h c.args.out.now shows)

pub returns-then-is_too_long : goal.returns-then-is_too_long
returns-then-is_too_long c = λ q h caps theirs setup shows own keeps up reads shared.
    let transfer : ℕ = c.args.common.to_responder.transfer in
    let offer : OfferMessage = offer_message c.in-Some.offer in
    let effect : Effect = Answers (GetCapabilities caps) c.args.answer.now in
    let some : Some offer ≡ offer_of q.suites transfer = c.in-Some.ensures.value ∙ ap (λ (s : Suites). offer_of s transfer) (sym setup.suites) in
    let is = own_offer_is q.suites transfer offer (sym some) in
    let long = c.if-is_too_long.ensures (canonical_request (NegotiateAlgorithms offer)) is.long in
    let leads = ap (λ (b : Bool). if b then stopped stop.TooLong else goes_on effect (request_sent c.args.common h (NegotiateAlgorithms offer))) long ∙ ap (offer_led h effect c.args.common) some in
    subst (λ (l : Led). IsLed h (Ok l) c.stop-then-is_too_long.result c.args.self.now c.stop-then-is_too_long.new.self c.args.out.now) leads (c.stop-then-is_too_long.ensures h c.args.out.now shows)

pub returns : goal.returns
returns c = λ q h caps theirs setup shows own keeps up reads shared.
    let before : Seen = record { negotiating = c.self.inside.negotiating; outgoing = c.self.inside.outgoing; brought = c.self.inside.brought } in
    let shown = subst (λ (s : Seen). Shows s h) (sym c.self.view_is) shows in
    let kept = subst (λ (s : Seen). s.outgoing.request ≡ canonical_request (GetCapabilities caps)) (sym c.self.view_is) keeps in
    let common = c.args.common in
    let transfer : ℕ = common.to_responder.transfer in
    let offer : OfferMessage = offer_message c.in-Some.offer in
    let answer = c.args.answer.now in
    let effect : Effect = Answers (GetCapabilities caps) answer in
    let some : Some offer ≡ offer_of q.suites transfer = c.in-Some.ensures.value ∙ ap (λ (s : Suites). offer_of s transfer) (sym setup.suites) in
    let is = own_offer_is q.suites transfer offer (sym some) in
    let fits = c.if-is_too_long.ensures (canonical_request (NegotiateAlgorithms offer)) is.long in
    let x = request_sent common h (NegotiateAlgorithms offer) in
    let leads = sym (ap (offer_led h effect common) some) ∙ sym (ap (λ (b : Bool). if b then stopped stop.TooLong else goes_on effect x) fits) in
    let ours = ap (λ (k : Caps). common_of k theirs) (sym own) ∙ shared in
    let room = common_room q common (common_is q theirs common setup.sizes ours) in
    let long = is.long in
    let keep = c.keep.ensures c.in-Some.ensures.sound (omega (arith, long)) in
    let bytes = ap (λ (s : outgoing.Seen). s.request) keep in
    let tags = ap (λ (s : outgoing.Seen). s.tag) keep in
    let handles = ap (λ (s : outgoing.Seen). s.handle) keep in
    let negotiated = capabilities_stand q before.negotiating c.take_capabilities.new.self (phase_of h) (negotiation_of h) caps theirs common (hash_len (connection_terms h)) c.request.result.now answer setup.sizes shown.negotiating up own
    (c.request.ensures.value ∙ kept) (capabilities_long (hash_len (connection_terms h)) answer theirs reads) reads ours c.take_capabilities.ensures in
    let sends = c.send_request.ensures h (NegotiateAlgorithms offer) common (tags ∙ shown.outgoing.tag) (handles ∙ shown.outgoing.handle) bytes refl refl room.least room.most in (
      goes_on effect x,
      ap (λ (l : Led). Ok l) leads,
      x,
      request_no_get common h (NegotiateAlgorithms offer) (nat_lt transfer (length (canonical_request (NegotiateAlgorithms offer)))) (next_handle h),
      next_led h effect x (NegotiateAlgorithms offer) before c.take_capabilities.new.self c.keep.new.self c.send_request.new.self c.send_request.result c.send_request.new.out
          shown negotiated (capabilities_up (negotiation_of h) (canonical_request (GetCapabilities caps)) answer up) refl (request_sent-asks common h (NegotiateAlgorithms offer)) tags handles bytes sends,
    )
