use Rattle.std.proofs.Common.{◌≡◌, IfOk, Result, length, subst}
use Rattle.capture_picture.proofs.Readings.{by_err, by_ok}
use Rattle.capture_picture.specs.Arrows.{of_request}
use Rattle.spdm_grammar.specs.Message.{RequestMessage}
use Rattle.spdm_grammar.specs.Requests.{request_reading}
use Rattle.spdm_grammar.specs.declared.messages.malformed.Malformed.{Malformed}
use Rattle.capture_picture.proofs.contents.of_request.Goals as goal

pub returns-in-Ok : goal.returns-in-Ok
returns-in-Ok c =
    let reading = request_reading c.args.hash_len c.args.message.now in
    subst (λ (r : Result RequestMessage Malformed). IfOk c.of_read_request.result (λ x. x ≡ of_request (length c.args.message.now) r)) (by_ok reading _ c.in-Ok.ensures.value) c.of_read_request.ensures

pub returns-in-Err : goal.returns-in-Err
returns-in-Err c =
    let reading = request_reading c.args.hash_len c.args.message.now in
    subst (λ (r : Result RequestMessage Malformed). IfOk c.of_malformed.result (λ x. x ≡ of_request (length c.args.message.now) r)) (by_err reading _ c.in-Err.ensures.fault) (c.of_malformed.ensures.request (length c.args.message.now))
