use Rattle.std.proofs.Common.{ap, sym, subst, List, ℕ}
use Rattle.responder_machine.specs.Answer.{Free}
use Rattle.spdm_grammar.specs.declared.messages.choice.Choice.{Choice}
use Rattle.check_responder.proofs.ApartJudged.{none_judged}
use Rattle.check_laws.specs.AnswersShown.{clear_values}
use Rattle.check_responder.specs.ClearAnswers.{IsLongWith}
use Rattle.check_responder.proofs.judged_responder.JudgedResponder.says_with.Goals as goal

pub returns-in-Itself : goal.returns-in-Itself
returns-in-Itself c = λ r h set stands idle few anew free.
    let f : Free = clear_values r h c.args.message.now c.args.reply.now in
    let chosen = ap (λ (x : Choice). x.hash) (sym (c.choice-hash.ensures.value r h stands)) in
    c.says_at.ensures r h f set stands idle few free (c.values_are_bounded.ensures f free) (c.in-Itself.ensures r h set stands chosen)

pub returns-in-Carried : goal.returns-in-Carried
returns-in-Carried c = λ r h set stands idle few anew free.
    let f : Free = clear_values r h c.args.message.now c.args.reply.now in
    let chosen = ap (λ (x : Choice). x.hash) (sym (c.choice-hash.ensures.value r h stands)) in
    let long = subst (λ (l : List ℕ). IsLongWith r h c.args.message.now l f) (sym c.as_slice.ensures.value) (c.in-Carried.ensures r h set stands chosen) in
    c.says_at-in-Carried.ensures r h f set stands idle few free (c.values_are_bounded.ensures f free) long

pub returns-in-Never : goal.returns-in-Never
returns-in-Never c = λ r h set stands idle few anew free.
    let f : Free = clear_values r h c.args.message.now c.args.reply.now in
    let chosen = ap (λ (x : Choice). x.hash) (sym (c.choice-hash.ensures.value r h stands)) in
    none_judged r h c.args.tag c.args.message.now f c.args.reply.now anew (c.in-Never.ensures r h set stands chosen f)
