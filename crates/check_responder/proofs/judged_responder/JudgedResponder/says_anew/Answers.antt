use Rattle.check_responder.proofs.ApartJudged.{none_judged}
use Rattle.check_laws.specs.AnswersShown.{clear_values}
use Rattle.check_responder.proofs.judged_responder.JudgedResponder.says_anew.Goals as goal

pub returns-in-None : goal.returns-in-None
returns-in-None c = λ r h set stands idle few anew.
    let m = c.args.message.now in
    let reply = c.args.reply.now in
    none_judged r h c.args.tag m (clear_values r h m reply) reply anew (c.in-None.ensures r h set stands)

pub returns-in-Some : goal.returns-in-Some
returns-in-Some c = λ r h set stands idle few anew. c.says_with.ensures r h set stands idle few anew (c.in-Some.ensures r h set stands)
