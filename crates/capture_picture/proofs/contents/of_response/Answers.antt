use Rattle.std.proofs.Common.{◌≡◌, IfOk, Result, length, subst}
use Rattle.capture_picture.proofs.Readings.{by_err, by_ok}
use Rattle.capture_picture.specs.Arrows.{of_response}
use Rattle.spdm_grammar.specs.Message.{ResponseMessage}
use Rattle.spdm_grammar.specs.Responses.{response_reading}
use Rattle.spdm_grammar.specs.declared.messages.malformed.Malformed.{Malformed}
use Rattle.capture_picture.proofs.contents.of_response.Goals as goal

pub returns-in-Ok : goal.returns-in-Ok
returns-in-Ok c =
    let reading = response_reading c.args.lengths.hash_len c.args.lengths.has_summary c.args.message.now in
    subst (λ (r : Result ResponseMessage Malformed). IfOk c.of_read_response.result (λ x. x ≡ of_response (length c.args.message.now) r)) (by_ok reading _ c.in-Ok.ensures.value) c.of_read_response.ensures

pub returns-in-Err : goal.returns-in-Err
returns-in-Err c =
    let reading = response_reading c.args.lengths.hash_len c.args.lengths.has_summary c.args.message.now in
    subst (λ (r : Result ResponseMessage Malformed). IfOk c.of_malformed.result (λ x. x ≡ of_response (length c.args.message.now) r)) (by_err reading _ c.in-Err.ensures.fault) (c.of_malformed.ensures.response (length c.args.message.now))
