use Rattle.std.proofs.Common.{sym, subst, Some}
use Rattle.responder_core.specs.Free.{IsFree}
use Rattle.spdm_grammar.specs.Message.{response_message}
use Rattle.spdm_grammar.specs.Message.RequestMessage.{GetMeasurements}
use Rattle.spdm_grammar.specs.declared.messages.response.Response.{Response}
use Rattle.check_laws.specs.AnswersShown.{with_fields}
use Rattle.check_responder.proofs.shown_fields.with_measurements.Goals as goal

pub returns-in-Measurements : goal.returns-in-Measurements
returns-in-Measurements c = λ f op free.
    subst (λ (x : Response). IsFree c.with_measured.result (with_fields f (Some (GetMeasurements op)) (Some (response_message x)))) (sym c.in-Measurements.is) (c.with_measured.ensures f free)
