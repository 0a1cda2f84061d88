use Rattle.check_responder.proofs.judged_responder.JudgedResponder.answers_record.Goals as goal

pub returns-clause-told : goal.returns-clause-told
returns-clause-told c = λ r h tag set stands few. c.answers_record_with.ensures.told r h tag set stands few (c.prepare_record.ensures r h stands few)

pub returns-clause-stands : goal.returns-clause-stands
returns-clause-stands c = λ r h tag set stands few. c.answers_record_with.ensures.stands r h tag set stands few (c.prepare_record.ensures r h stands few)
