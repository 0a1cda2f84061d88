use Rattle.std.proofs.Common.{◌∙◌, sym, subst, Option}
use Rattle.responder_session.specs.declared.answer_key.AnswerKey.{AnswerKey}
use Rattle.check_responder.proofs.opening.opens_coming.Goals as goal
use Rattle.check_responder.specs.Opening.{IsByKey}

pub returns-in-Some : goal.returns-in-Some
returns-in-Some c = λ is its.
    let by = subst (λ (o : Option AnswerKey). IsByKey o c.args.sealed.now is) c.in-Some.is its in
    c.opens_by.ensures by.0 by.1 by.2 by.3 by.4 ∙ sym by.5

pub returns-in-None : goal.returns-in-None
returns-in-None c = λ is its. absurd (subst (λ (o : Option AnswerKey). IsByKey o c.args.sealed.now is) c.in-None.is its)
