use Rattle.std.proofs.Common.{false}
use Rattle.check_responder.proofs.KeysKept.{opens_last}
use Rattle.check_responder.proofs.KeysOpen.{kept_opens, no_key}
use Rattle.check_responder.proofs.answer_keys.AnswerKeys.opens_again.Goals as goal
use Rattle.check_responder.specs.AnswerKeys.{last_key}

pub returns-in-Some : goal.returns-in-Some
returns-in-Some c = λ r s is took.
    let kept = last_key c.args.self.now c.args.id in
    opens_last r s c.args.sealed.now kept c.opens_by.result is took
    (λ older t its. kept_opens r older t c.args.sealed.now kept c.in-Some.key.now c.opens_by.result c.in-Some.ensures its c.opens_by.ensures)

pub returns-in-None : goal.returns-in-None
returns-in-None c = λ r s is took.
    let kept = last_key c.args.self.now c.args.id in
    opens_last r s c.args.sealed.now kept false is took (λ older t its. no_key r older t kept c.in-None.ensures its)
