use Rattle.std.proofs.Common.{◌∙◌}
use Rattle.responder_session.proofs.AnswerKeys.{opens_is}
use Rattle.spdm_machine.specs.Keys.{record_fault}
use Rattle.check_responder.proofs.answer_keys.opens_by.Goals as goal

pub returns : goal.returns
returns c = λ choice p number id is.
    c.is_ok.ensures.value ∙ opens_is c.open.result (record_fault choice p number id c.args.sealed.now) (c.open.ensures.fault choice p number id is)
