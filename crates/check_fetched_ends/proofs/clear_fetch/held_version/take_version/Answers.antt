use Rattle.std.proofs.Common.{◌≡◌, ◌∷◌, ◌∙◌, ℕ, List, [], sym, ap, subst, arith}
use Rattle.check_laws.proofs.LeastValues.{least_allowed}
use Rattle.check_laws.specs.AnswersShown.{least_values}
use Rattle.responder_core.specs.Connected.{StandsFor}
use Rattle.check_fetched_laws.proofs.ClearVersion.{version_gives}
use Rattle.responder_machine.specs.Place.{clear_place}
use Rattle.responder_machine.specs.Responder.{Outcome, after, on_clear}
use Rattle.spdm_grammar.specs.Message.RequestMessage.{GetVersion}
use Rattle.spdm_grammar.specs.Requests.{canonical_request}
use Rattle.capture_machine.specs.Rounds.{no_draw}
use Rattle.check_fetched_ends.proofs.clear_fetch.held_version.take_version.Goals as goal

pub returns : goal.returns
returns c = λ r h set_up stands version anew.
    let free = c.least_values-values.ensures.free r h stands in
    let done = c.on_clear.ensures.done r h (least_values h (clear_place h)) no_draw set_up free (least_allowed h (clear_place h) [] (omega arith)) stands in
    let gives = ap (λ (m : List ℕ). on_clear r h c.args.tag m (least_values h (clear_place h)) no_draw) version ∙ version_gives r h c.args.tag anew (least_values h (clear_place h)) in
    subst (λ (o : Outcome). StandsFor c.on_clear.new.self r (after h o)) gives done.stands
