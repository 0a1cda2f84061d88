use Rattle.spdm_grammar.specs.Message.{request_message}
use Rattle.responder_session.proofs.AllKeys.{other_request, other_turn}
use Rattle.responder_session.proofs.own_answers.asks_all.Goals as goal

pub returns-in_default : goal.returns-in_default
returns-in_default c = λ r s f sizes place read.
    other_turn r s f c.args.message.now (request_message c.args.request.now) read.0 read.1 (other_request c.args.request.now c.in_default.not-KeyUpdate)
