use Rattle.std.proofs.Common.{◌∙◌, sym}
use Rattle.check_requester.proofs.ReasonsKept.{other_why}
use Rattle.check_requester.proofs.judged_requester.JudgedRequester.why.Goals as goal

pub returns-then-is_apart-clause-why : goal.returns-then-is_apart-clause-why
returns-then-is_apart-clause-why c = λ w q older k keeps few asker. sym (c.is_apart.ensures.apart w q older k keeps few asker) ∙ c.if-is_apart.true

pub returns-clause-why : goal.returns-clause-why
returns-clause-why c = λ w q older k keeps few asker.
    other_why w q older k keeps c.args.body.now asker.setup (sym c.if-is_apart.false ∙ c.is_apart.ensures.apart w q older k keeps few asker) _
    (c.why_other.ensures.why w q older k keeps few (c.is_apart.ensures.kept w q older k keeps few asker))

pub returns-clause-kept : goal.returns-clause-kept
returns-clause-kept c = λ w q older k keeps few asker. c.why_other.ensures.kept w q older k keeps few (c.is_apart.ensures.kept w q older k keeps few asker)
