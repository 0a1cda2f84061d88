use Rattle.std.proofs.Common.{refl, ◌≡◌, ◌∙◌, ap, subst, sym, ℕ, List, Option, None, arith}
use Rattle.std.specs.Prelude.{Ok}
use Rattle.requester_core.proofs.Leading.{next_led, plain_small, small_sends, version_stands, version_up}
use Rattle.requester_core.proofs.Started.{some_if}
use Rattle.requester_core.specs.ReplyOutcome.{IsLed, SendsNext}
use Rattle.requester_core.specs.Outgoing as outgoing
use Rattle.requester_core.specs.ClearState.{Seen, Shows}
use Rattle.requester_machine.specs.Answers.{goes_on, version_led}
use Rattle.requester_machine.specs.History.{Led, negotiation_of, phase_of}
use Rattle.requester_machine.specs.History.Effect.{Answers}
use Rattle.requester_machine.specs.Sending.{plain_sent}
use Rattle.requester_machine.specs.Setup.{requester_caps}
use Rattle.spdm_grammar.specs.Message.RequestMessage.{GetCapabilities, GetVersion}
use Rattle.spdm_grammar.specs.Requests.{canonical_request}
use Rattle.spdm_grammar.specs.declared.messages.capabilities.Caps.{Caps}
use Rattle.requester_core.specs.declared.clear.outstanding.PendingRequest.TheVariants as asks
use Rattle.requester_core.specs.declared.clear.outstanding.TransferMode.TheVariants as modes
use Rattle.requester_core.proofs.clear.clear_state.ClearState.on_version.Goals as goal
use Rattle.spdm_basis.proofs.Options.{none_out}

pub returns-then-is_none : goal.returns-then-is_none
returns-then-is_none c = λ q h setup shows keeps up short.
    let none : c.choose_version.result ≡ None = none_out c.choose_version.result c.if-is_none.ensures in
    subst (λ (o : Option ℕ). IsLed h (Ok (version_led q h c.args.answer.now o)) c.stop.result c.args.self.now c.stop.new.self c.args.out.now) (sym none ∙ c.choose_version.ensures) (c.stop.ensures h c.args.out.now shows)

pub returns : goal.returns
returns c = λ q h setup shows keeps up short.
    let before : Seen = record { negotiating = c.self.inside.negotiating; outgoing = c.self.inside.outgoing; brought = c.self.inside.brought } in
    let shown = subst (λ (s : Seen). Shows s h) (sym c.self.view_is) shows in
    let kept = subst (λ (s : Seen). s.outgoing.request ≡ canonical_request GetVersion) (sym c.self.view_is) keeps in
    let some = some_if c.choose_version.result c.if-is_none.ensures in
    let answer = c.args.answer.now in
    let caps : c.caps.result ≡ requester_caps q = c.caps.ensures q setup in
    let led : Led = goes_on (Answers GetVersion answer) (plain_sent h (GetCapabilities (requester_caps q))) in
    let leads = ap (version_led q h answer) (sym c.choose_version.ensures ∙ some.1) in
    let keep = c.keep.ensures tt (omega arith) in
    let bytes = ap (λ (s : outgoing.Seen). s.request) keep ∙ ap (λ (x : Caps). canonical_request (GetCapabilities x)) caps in
    let tags = ap (λ (s : outgoing.Seen). s.tag) keep in
    let out = c.send.ensures.out tt ∙ bytes in
    let negotiated = version_stands before.negotiating c.take_version.new.self (phase_of h) (negotiation_of h) c.request.result.now answer shown.negotiating up (c.request.ensures.value ∙ kept) short c.take_version.ensures in
    let sends = small_sends (plain_sent h (GetCapabilities (requester_caps q))) h (GetCapabilities (requester_caps q)) asks.Capabilities modes.Whole c.keep.new.self c.send.new.self c.send.result (canonical_request (GetCapabilities (requester_caps q)))
    (plain_small h (GetCapabilities (requester_caps q))) refl (tags ∙ shown.outgoing.tag) c.send.ensures.tag c.send.ensures.new in
    let next = next_led h (Answers GetVersion answer) (plain_sent h (GetCapabilities (requester_caps q))) (GetCapabilities (requester_caps q)) before c.take_version.new.self c.keep.new.self c.send.new.self c.send.result (canonical_request (GetCapabilities (requester_caps q)))
    shown negotiated (version_up (negotiation_of h) (canonical_request GetVersion) answer up) refl refl tags (ap (λ (s : outgoing.Seen). s.handle) keep) bytes sends in
    (led, ap (λ (l : Led). Ok l) leads, plain_sent h (GetCapabilities (requester_caps q)), refl, subst (λ (m : List ℕ). SendsNext h led (plain_sent h (GetCapabilities (requester_caps q))) c.send.result (record { negotiating = c.take_version.new.self; outgoing = c.send.new.self; brought = before.brought }) m) (sym out) next)
