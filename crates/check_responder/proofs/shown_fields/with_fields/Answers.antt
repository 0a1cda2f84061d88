use Rattle.std.proofs.Common.{◌≡◌, ◌∙◌, ap, subst, Bool, Option, Some}
use Rattle.responder_core.specs.Free.{IsFree}
use Rattle.spdm_grammar.specs.Message.{ResponseMessage, request_message, response_message}
use Rattle.spdm_grammar.specs.Responses.{response_in}
use Rattle.check_laws.specs.AnswersShown.{asks_summary, with_fields}
use Rattle.check_responder.proofs.shown_fields.with_fields.Goals as goal

pub returns-in-Some : goal.returns-in-Some
returns-in-Some c = λ f free.
    let read : Some (response_message c.in-Some.response) ≡ response_in c.args.hash_len (asks_summary (Some (request_message c.args.request.now))) c.args.reply.now =
    c.in-Some.ensures.value ∙ ap (λ (b : Bool). response_in c.args.hash_len b c.args.reply.now) c.asks_summary.ensures in
    subst (λ (o : Option ResponseMessage). IsFree c.with_response.result (with_fields f (Some (request_message c.args.request.now)) o)) read (c.with_response.ensures f free)
