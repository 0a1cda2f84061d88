use Rattle.std.proofs.Common.{refl, ◌≡◌, ◌∙◌, ap, subst, sym, ℕ, List, [], Bool, true}
use Rattle.std.specs.Prelude.{if◌then◌else◌, slice_index, Ok}
use Rattle.requester_core.proofs.Leading.{large_led}
use Rattle.requester_core.specs.ReplyOutcome.{IsLed, SendsNext}
use Rattle.requester_core.specs.ClearState.{Seen, Shows}
use Rattle.requester_machine.specs.Answers.{error_led, goes_on, is_refused}
use Rattle.requester_machine.specs.History.{Led}
use Rattle.requester_machine.specs.History.Effect.{Nothing, Refuses}
use Rattle.requester_machine.specs.Sending.{get_sent}
use Rattle.spdm_grammar.specs.Requests.{canonical_request}
use Rattle.requester_core.proofs.clear.clear_state.ClearState.on_error.Goals as goal

pub returns-then-is_large : goal.returns-then-is_large
returns-then-is_large c = λ h request shows keeps clear kind up.
    let before : Seen = record { negotiating = c.self.inside.negotiating; outgoing = c.self.inside.outgoing; brought = c.self.inside.brought } in
    let shown = subst (λ (s : Seen). Shows s h) (sym c.self.view_is) shows in
    let kept = subst (λ (s : Seen). s.outgoing.request ≡ canonical_request request) (sym c.self.view_is) keeps in
    let is : true ≡ _ = c.if-is_large.ensures h request shows clear kind in
    let handle = c.first_byte.result in
    let led : Led = goes_on Nothing (get_sent h request handle 0 []) in
    let leads : error_led h request c.args.code c.args.extended.now ≡ led =
    ap (λ (b : Bool). if b then goes_on Nothing (get_sent h request (slice_index c.args.extended.now 0) 0 []) else is_refused c.args.code (Refuses request)) (sym is)
    ∙ ap (λ (n : ℕ). goes_on Nothing (get_sent h request n 0 [])) (sym c.first_byte.ensures) in
    let out = c.send.ensures.out tt in
    let sends = large_led h request c.args.asked handle c.send.result before c.send.new.self c.send.new.out shown kept kind up c.send.ensures.tag c.send.ensures.new out in
    (led, ap (λ (l : Led). Ok l) leads, get_sent h request handle 0 [], (request, handle, refl), subst (λ (m : List ℕ). SendsNext h led (get_sent h request handle 0 []) c.send.result (record { negotiating = before.negotiating; outgoing = c.send.new.self; brought = before.brought }) m) (sym out) sends)

pub returns : goal.returns
returns c = λ h request shows keeps clear kind up.
    let leads = ap (λ (b : Bool). if b then goes_on Nothing (get_sent h request (slice_index c.args.extended.now 0) 0 []) else is_refused c.args.code (Refuses request)) (c.if-is_large.ensures h request shows clear kind) in
    subst (λ (l : Led). IsLed h (Ok l) c.refuse.result c.args.self.now c.refuse.new.self c.args.out.now) leads (c.refuse.ensures h request c.args.out.now shows clear kind)
