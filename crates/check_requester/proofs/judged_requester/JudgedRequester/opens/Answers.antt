use Rattle.std.proofs.Common.{◌∙◌, Option, subst, sym}
use Rattle.requester_core.specs.Joined.{StandsFor}
use Rattle.requester_machine.specs.Message.{Sent}
use Rattle.check_requester.proofs.AskedBy.{bare_kept}
use Rattle.check_requester.proofs.GoneOn.{some_of}
use Rattle.check_requester.proofs.OwedTook.{kept_few, owed_took}
use Rattle.check_requester.proofs.judged_requester.JudgedRequester.opens.Goals as goal
use Rattle.check_laws.specs.Keeping.{owing}

pub returns-then-self-clause-opens : goal.returns-then-self-clause-opens
returns-then-self-clause-opens c = λ w q older k keeps few asker.
    let some = some_of k.owed (sym asker.owes ∙ c.if-self.true) in
    let stands = subst (λ (o : Option Sent). StandsFor c.args.self.now.asking q (owing o k.requester)) some.1 asker.stands in
    c.opens_before.ensures q k.requester some.0 (owed_took w q older k some.0 keeps some.1) (kept_few w q older k keeps few) stands

pub returns-else-self-clause-opens : goal.returns-else-self-clause-opens
returns-else-self-clause-opens c = λ w q older k keeps few asker. c.opens_next.ensures.told q k.requester (kept_few w q older k keeps few) (bare_kept q k c.args.self.now asker c.if-self.false)
