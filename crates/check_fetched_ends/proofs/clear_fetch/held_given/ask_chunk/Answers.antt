use Rattle.std.proofs.Common.{◌≡◌, ◌≤◌, ◌<◌, ◌∷◌, ◌∙◌, ℕ, List, [], sym, ap, subst, arith, length, None, Result, Ok, Err}
use Rattle.std.specs.Prelude.{OnErr, OnOk}
use Rattle.check_laws.proofs.LeastValues.{least_allowed}
use Rattle.check_laws.specs.AnswersShown.{least_values}
use Rattle.responder_core.specs.Connected.{StandsFor}
use Rattle.check_fetched_laws.proofs.ClearChunks.{gives}
use Rattle.check_fetched_laws.specs.ClearChunks.{get_message}
use Rattle.check_fetched_laws.proofs.LastAsked.{written}
use Rattle.responder_machine.specs.History.{History}
use Rattle.responder_machine.specs.Place.{clear_place}
use Rattle.responder_machine.specs.Responder.{Outcome, after, body_of, on_clear}
use Rattle.capture_machine.specs.LargeAnswers.{with_large}
use Rattle.capture_machine.specs.Rounds.{no_draw}
use Rattle.check_fetched_ends.proofs.clear_fetch.held_given.ask_chunk.Goals as goal

pub returns-clause-stands : goal.returns-clause-stands
returns-clause-stands c = λ r h whole set_up stands next.
    let g : History = with_large None whole h in
    let free = c.least_values-values.ensures.free r g stands in
    let done = c.on_clear.ensures.done r g (least_values g (clear_place g)) no_draw set_up free (least_allowed g (clear_place g) [] (omega arith)) stands in
    let message = c.as_slice.ensures.value ∙ written c.args.handle c.args.number c.write_request.result c.write_request.new.out c.write_request.ensures.ok c.write_request.ensures.err in
    let led = ap (λ (m : List ℕ). on_clear r g c.args.tag m (least_values g (clear_place g)) no_draw) message ∙ gives r h whole c.args.tag c.args.handle c.args.number next (least_values g (clear_place g)) in
    subst (λ (o : Outcome). StandsFor c.on_clear.new.self r (after g o)) led done.stands

pub returns-clause-gives : goal.returns-clause-gives
returns-clause-gives c = λ r h whole set_up stands next.
    let g : History = with_large None whole h in
    let free = c.least_values-values.ensures.free r g stands in
    let done = c.on_clear.ensures.done r g (least_values g (clear_place g)) no_draw set_up free (least_allowed g (clear_place g) [] (omega arith)) stands in
    let message = c.as_slice.ensures.value ∙ written c.args.handle c.args.number c.write_request.result c.write_request.new.out c.write_request.ensures.ok c.write_request.ensures.err in
    let led = ap (λ (m : List ℕ). on_clear r g c.args.tag m (least_values g (clear_place g)) no_draw) message ∙ gives r h whole c.args.tag c.args.handle c.args.number next (least_values g (clear_place g)) in
    ap (λ (l : List ℕ). tail_of l) (done.body ∙ ap body_of led)
  where
    tail_of : List ℕ → List ℕ
    tail_of [] = []
    tail_of (x ∷ l) = l
