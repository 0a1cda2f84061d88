use Rattle.std.proofs.Common.{◌≡◌, ◌∙◌, List, subst, sym}
use Rattle.requester_machine.specs.Named.{session_named}
use Rattle.check_requester.proofs.ReasonsKept.{clear_other, sealed_other}
use Rattle.check_requester.proofs.judged_requester.JudgedRequester.why_other.Goals as goal
use Rattle.capture_machine.specs.Opening.{opens_asking}

pub returns-then-is_clear-clause-why : goal.returns-then-is_clear-clause-why
returns-then-is_clear-clause-why c = λ w q older k keeps few asker. clear_other q k.requester c.args.body.now (sym c.is_clear.ensures ∙ c.if-is_clear.true)

pub returns-then-opens-clause-why : goal.returns-then-opens-clause-why
returns-then-opens-clause-why c = λ w q older k keeps few asker.
    let opens = subst (λ (l : List _). c.opens.result ≡ opens_asking q (session_named k.requester l) l) c.rest_of.ensures (c.opens.ensures.opens w q older k keeps few asker) in
    sealed_other q k.requester c.args.body.now _ (sym c.is_clear.ensures ∙ c.if-is_clear.false) (sym c.if-opens.true ∙ opens)

pub returns-else-opens-clause-why : goal.returns-else-opens-clause-why
returns-else-opens-clause-why c = λ w q older k keeps few asker.
    let opens = subst (λ (l : List _). c.opens.result ≡ opens_asking q (session_named k.requester l) l) c.rest_of.ensures (c.opens.ensures.opens w q older k keeps few asker) in
    sealed_other q k.requester c.args.body.now _ (sym c.is_clear.ensures ∙ c.if-is_clear.false) (sym c.if-opens.false ∙ opens)

pub returns-then-opens-clause-kept : goal.returns-then-opens-clause-kept
returns-then-opens-clause-kept c = λ w q older k keeps few asker. c.opens.ensures.kept q k asker

pub returns-else-opens-clause-kept : goal.returns-else-opens-clause-kept
returns-else-opens-clause-kept c = λ w q older k keeps few asker. c.opens.ensures.kept q k asker
