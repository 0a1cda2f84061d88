use Rattle.std.proofs.Common.{◌≤◌, ap, sym, subst, ℕ, List, length}
use Rattle.measurements.specs.Blocks.{record_of}
use Rattle.measurements.specs.Records.{asked}
use Rattle.responder_machine.specs.Answer.{Free}
use Rattle.responder_machine.specs.Place.{clear_place}
use Rattle.responder_machine.specs.Responder.{after, on_clear}
use Rattle.spdm_grammar.specs.declared.told.block_spec.BlockSpec.{BlockSpec}
use Rattle.spdm_grammar.specs.declared.messages.choice.Choice.{Choice}
use Rattle.check_responder.proofs.ClearAsked.{long_least}
use Rattle.check_responder.proofs.ShownDrops.{some_then}
use Rattle.check_responder.specs.JudgedResponder.{IsAnswerer}
use Rattle.check_laws.specs.AnswersShown.{least_values}
use Rattle.check_responder.specs.ClearAnswers.{given_in}
use Rattle.check_responder.proofs.judged_responder.JudgedResponder.answers_again.Goals as goal
use Rattle.capture_machine.specs.Rounds.{no_draw}

pub returns-clause-told : goal.returns-clause-told
returns-clause-told c = λ r h set stands few.
    let least : Free = least_values h (clear_place h) in
    let chosen = ap (λ (x : Choice). x.hash) (sym (c.choice-hash.ensures.value r h stands)) in
    let free = c.least_values-values.ensures r h (clear_place h) stands chosen in
    let blocks = λ (op : ℕ). subst (λ (b : List BlockSpec). length (record_of (asked op b)) ≤ 4054) (sym set.inventory) (c.blocks_are_few.ensures op) in
    c.answers_at.ensures.told r h least set stands few free (c.values_are_bounded.ensures least free) (long_least r h c.args.message.now blocks)

pub returns-clause-stands : goal.returns-clause-stands
returns-clause-stands c = λ r h set stands few.
    let least : Free = least_values h (clear_place h) in
    let chosen = ap (λ (x : Choice). x.hash) (sym (c.choice-hash.ensures.value r h stands)) in
    let free = c.least_values-values.ensures r h (clear_place h) stands chosen in
    some_then (IsAnswerer c.answers_at.new.self r (after h (on_clear r h c.args.tag c.args.message.now least no_draw))) (given_in c.answers_at.result)
    (c.answers_at.ensures.stands r h least set stands few free (c.values_are_bounded.ensures least free))
