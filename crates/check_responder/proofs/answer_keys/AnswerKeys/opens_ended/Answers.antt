use Rattle.std.proofs.Common.{false}
use Rattle.check_responder.proofs.KeysKept.{opens_last_ended}
use Rattle.check_responder.proofs.KeysOpen.{kept_opens, no_key}
use Rattle.check_responder.proofs.answer_keys.AnswerKeys.opens_ended.Goals as goal

pub returns-in-Some : goal.returns-in-Some
returns-in-Some c = λ r h is took.
    let kept = c.args.self.now.ended in
    opens_last_ended r h c.args.sealed.now kept c.opens_by.result is took
    (λ older t its. kept_opens r older t c.args.sealed.now kept c.in-Some.key c.opens_by.result c.in-Some.is its c.opens_by.ensures)

pub returns-in-None : goal.returns-in-None
returns-in-None c = λ r h is took.
    let kept = c.args.self.now.ended in
    opens_last_ended r h c.args.sealed.now kept false is took (λ older t its. no_key r older t kept c.in-None.is its)
