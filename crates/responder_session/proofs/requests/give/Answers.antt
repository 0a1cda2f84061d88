use Rattle.responder_machine.specs.Place.{session_place}
use Rattle.spdm_grammar.specs.Message.{chunk_message}
use Rattle.spdm_grammar.specs.declared.messages.error_code.ErrorCode.TheVariants.{InvalidRequest}
use Rattle.responder_session.proofs.Allowed.{get_while_pending}
use Rattle.responder_session.proofs.Doing.{refused_deed}
use Rattle.responder_session.proofs.Given.{refused_get, given_deed}
use Rattle.responder_session.proofs.requests.give.Goals as goal

pub returns-in-None : goal.returns-in-None
returns-in-None c = λ r s f stands place a.
    refused_deed r s f c.args.message.now c.refused.new.out InvalidRequest c.refused.result c.refused.ensures.deed (c.refused.ensures.answer r s f place (λ e. cc))
    (refused_get r s f c.args.message.now c.args.handle c.args.number a (c.in-None.ensures (session_place s) stands (get_while_pending r s c.args.message.now c.args.handle c.args.number a)))

pub returns-in-Some : goal.returns-in-Some
returns-in-Some c = λ r s f stands place a.
    let asked = c.in-Some.ensures (session_place s) stands (get_while_pending r s c.args.message.now c.args.handle c.args.number a) in
    given_deed r s f c.args.message.now c.write_chunk.new.out (chunk_message c.in-Some.chunk) c.args.handle c.args.number a asked.0 asked.1 c.write_chunk.ensures
