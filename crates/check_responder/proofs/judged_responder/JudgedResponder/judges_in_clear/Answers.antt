use Rattle.check_responder.proofs.JudgedInClear.{judged_in_clear}
use Rattle.check_responder.proofs.judged_responder.JudgedResponder.judges_in_clear.Goals as goal

pub returns : goal.returns
returns c = λ r d round set_up answerer few tag body clear plain.
    judged_in_clear r d round c.args.tag c.args.body.now c.args.answer.now c.behind_type.result.now c.behind_type-2.result.now c.answers_clear.result c.answers_clear.new.self tag body clear plain c.behind_type.ensures c.behind_type-2.ensures
    (c.answers_clear.ensures.told r d.responder set_up answerer few) (c.answers_clear.ensures.stands r d.responder set_up answerer few)
