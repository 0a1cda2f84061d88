use Rattle.std.proofs.Common.{subst}
use Rattle.check_responder.proofs.opening.opens_so.Goals as goal
use Rattle.check_responder.specs.Opening.{IsOpening}
use Rattle.check_responder.specs.declared.opening.Opening.{Opening}

pub returns-in-Told : goal.returns-in-Told
returns-in-Told c = λ is its. subst (λ (x : Opening). IsOpening c.args.coming.now c.args.sealed.now x is) c.in-Told.is its

pub returns-in-ByKey : goal.returns-in-ByKey
returns-in-ByKey c = λ is its. c.opens_coming.ensures is (subst (λ (x : Opening). IsOpening c.args.coming.now c.args.sealed.now x is) c.in-ByKey.is its)
