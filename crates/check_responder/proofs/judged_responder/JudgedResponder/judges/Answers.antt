use Rattle.check_responder.proofs.judged_responder.JudgedResponder.judges.Goals as goal

pub returns : goal.returns
returns c = λ r d round set_up answerer few tag body typed apart. c.judges_with.ensures r d round set_up answerer few tag body typed apart (c.prepare.ensures r d.responder answerer few)
