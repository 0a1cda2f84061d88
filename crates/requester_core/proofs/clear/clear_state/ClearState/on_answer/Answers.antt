use Rattle.std.proofs.Common.{refl, ◌∙◌, ap, sym, ℕ}
use Rattle.std.specs.Prelude.{Err}
use Rattle.requester_core.proofs.Answered.{clear_request}
use Rattle.requester_machine.specs.ClearAnswers.{read_led}
use Rattle.spdm_grammar.specs.declared.told.event.ReqIgnored.TheVariants as ignored
use Rattle.requester_core.proofs.clear.clear_state.ClearState.on_answer.Goals as goal

pub returns-in-Ok : goal.returns-in-Ok
returns-in-Ok c = λ q h request setup shows awaits kind keeps up short near.
    c.on_response.ensures q h request setup shows awaits kind keeps up short (c.in-Ok.ensures h request shows (clear_request q h request awaits) kind)

pub returns-in-Err : goal.returns-in-Err
returns-in-Err c = λ q h request setup shows awaits kind keeps up short near.
    let reads = c.in-Err.ensures h request shows (clear_request q h request awaits) kind in
    λ f. (ap (read_led q h f c.args.place request c.args.answer.now) reads ∙ ap (λ (n : ℕ). Err (ignored.Malformed n)) (sym (c.place_of.ensures (near c.in-Err.fault reads))), refl)
