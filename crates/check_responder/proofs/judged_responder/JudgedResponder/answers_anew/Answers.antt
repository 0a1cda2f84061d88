use Rattle.check_responder.proofs.ApartJudged.{none_judged}
use Rattle.check_laws.specs.AnswersShown.{clear_values}
use Rattle.check_responder.proofs.judged_responder.JudgedResponder.answers_anew.Goals as goal

pub returns-in-None-clause-told : goal.returns-in-None-clause-told
returns-in-None-clause-told c = λ r h set stands few anew.
    let m = c.args.message.now in
    let reply = c.args.reply.now in
    none_judged r h c.args.tag m (clear_values r h m reply) reply anew (c.in-None.ensures r h set stands)

pub returns-in-Some-clause-told : goal.returns-in-Some-clause-told
returns-in-Some-clause-told c = λ r h set stands few anew. c.answers_with.ensures.told r h set stands few anew (c.in-Some.ensures r h set stands)

pub returns-in-Some-clause-stands : goal.returns-in-Some-clause-stands
returns-in-Some-clause-stands c = λ r h set stands few. c.answers_with.ensures.stands r h set stands few (c.in-Some.ensures r h set stands)
