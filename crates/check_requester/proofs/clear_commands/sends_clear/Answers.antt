use Rattle.std.proofs.Common.{sym}
use Rattle.spdm_grammar.specs.Message.{request_message}
use Rattle.check_requester.proofs.ClearRead.{none_read, some_read}
use Rattle.check_requester.proofs.clear_commands.sends_clear.Goals as goal

pub returns-in-Ok : goal.returns-in-Ok
returns-in-Ok c = λ q h kept short none stands.
    some_read q h c.args.message.now (λ i. (c.type_inv.message i).fits) (request_message c.in-Ok.request) c.sends_request.result c.sends_request.new.asking (sym c.in-Ok.ensures.value)
    (c.sends_request.ensures q h kept short none stands)

pub returns-in-Err : goal.returns-in-Err
returns-in-Err c = λ q h kept short none stands. none_read q h c.args.message.now (λ i. (c.type_inv.message i).fits) (sym c.in-Err.ensures.value) c.args.asking.now
