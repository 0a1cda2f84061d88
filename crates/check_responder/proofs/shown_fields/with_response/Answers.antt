use Rattle.std.proofs.Common.{sym, subst, Some}
use Rattle.responder_core.specs.Free.{IsFree}
use Rattle.spdm_grammar.specs.Message.{exchange_message, request_message, response_message}
use Rattle.spdm_grammar.specs.declared.messages.request.Request.{Request}
use Rattle.check_laws.specs.AnswersShown.{with_fields}
use Rattle.check_responder.proofs.shown_fields.with_response.Goals as goal

pub returns-in-PskExchange : goal.returns-in-PskExchange
returns-in-PskExchange c = λ f free.
    subst (λ (x : Request). IsFree c.with_exchanged.result (with_fields f (Some (request_message x)) (Some (response_message c.args.response.now)))) (sym c.in-PskExchange.is)
    (c.with_exchanged.ensures f (exchange_message c.in-PskExchange.field-0) free)

pub returns-in-GetMeasurements : goal.returns-in-GetMeasurements
returns-in-GetMeasurements c = λ f free.
    subst (λ (x : Request). IsFree c.with_measurements.result (with_fields f (Some (request_message x)) (Some (response_message c.args.response.now)))) (sym c.in-GetMeasurements.is)
    (c.with_measurements.ensures f c.in-GetMeasurements.op free)
