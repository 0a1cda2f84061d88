use Rattle.check_responder.proofs.judged_responder.JudgedResponder.reply_why.Goals as goal

pub returns-clause-told : goal.returns-clause-told
returns-clause-told c = λ r d round stands few keys same.
    c.reason_for.ensures r d round (c.opening_with-told.ensures.told r d round stands few keys same (c.prepare.ensures r d.responder stands few))
