use Rattle.std.proofs.Common.{ap, sym, subst, List, ℕ}
use Rattle.responder_machine.specs.Answer.{Free}
use Rattle.responder_machine.specs.Responder.{after, on_clear}
use Rattle.spdm_grammar.specs.declared.messages.choice.Choice.{Choice}
use Rattle.check_responder.proofs.ApartJudged.{none_judged}
use Rattle.check_responder.proofs.ShownDrops.{some_then}
use Rattle.check_responder.specs.JudgedResponder.{IsAnswerer}
use Rattle.check_laws.specs.AnswersShown.{clear_values}
use Rattle.check_responder.specs.ClearAnswers.{IsLongWith, given_in}
use Rattle.check_responder.proofs.judged_responder.JudgedResponder.answers_with.Goals as goal
use Rattle.capture_machine.specs.Rounds.{no_draw}

pub returns-in-Itself-clause-told : goal.returns-in-Itself-clause-told
returns-in-Itself-clause-told c = λ r h set stands few anew free.
    let f : Free = clear_values r h c.args.message.now c.args.reply.now in
    let chosen = ap (λ (x : Choice). x.hash) (sym (c.choice-hash.ensures.value r h stands)) in
    c.answers_at.ensures.told r h f set stands few free (c.values_are_bounded.ensures f free) (c.in-Itself.ensures r h set stands chosen)

pub returns-in-Itself-clause-stands : goal.returns-in-Itself-clause-stands
returns-in-Itself-clause-stands c = λ r h set stands few free.
    let f : Free = clear_values r h c.args.message.now c.args.reply.now in
    some_then (IsAnswerer c.answers_at.new.self r (after h (on_clear r h c.args.tag c.args.message.now f no_draw))) (given_in c.answers_at.result)
    (c.answers_at.ensures.stands r h f set stands few free (c.values_are_bounded.ensures f free))

pub returns-in-Carried-clause-told : goal.returns-in-Carried-clause-told
returns-in-Carried-clause-told c = λ r h set stands few anew free.
    let f : Free = clear_values r h c.args.message.now c.args.reply.now in
    let chosen = ap (λ (x : Choice). x.hash) (sym (c.choice-hash.ensures.value r h stands)) in
    let long = subst (λ (l : List ℕ). IsLongWith r h c.args.message.now l f) (sym c.as_slice.ensures.value) (c.in-Carried.ensures r h set stands chosen) in
    c.answers_at-in-Carried.ensures.told r h f set stands few free (c.values_are_bounded.ensures f free) long

pub returns-in-Carried-clause-stands : goal.returns-in-Carried-clause-stands
returns-in-Carried-clause-stands c = λ r h set stands few free.
    let f : Free = clear_values r h c.args.message.now c.args.reply.now in
    some_then (IsAnswerer c.answers_at-in-Carried.new.self r (after h (on_clear r h c.args.tag c.args.message.now f no_draw))) (given_in c.answers_at-in-Carried.result)
    (c.answers_at-in-Carried.ensures.stands r h f set stands few free (c.values_are_bounded.ensures f free))

pub returns-in-Never-clause-told : goal.returns-in-Never-clause-told
returns-in-Never-clause-told c = λ r h set stands few anew free.
    let f : Free = clear_values r h c.args.message.now c.args.reply.now in
    let chosen = ap (λ (x : Choice). x.hash) (sym (c.choice-hash.ensures.value r h stands)) in
    none_judged r h c.args.tag c.args.message.now f c.args.reply.now anew (c.in-Never.ensures r h set stands chosen f)
