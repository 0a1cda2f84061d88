use Rattle.std.proofs.Common.{sym, subst, Some}
use Rattle.spdm_grammar.specs.Message.{request_message}
use Rattle.spdm_grammar.specs.declared.messages.request.Request.{Request}
use Rattle.check_responder.specs.JudgedResponder.{AreLonger}
use Rattle.check_laws.specs.AnswersShown.{lengthened}
use Rattle.check_responder.proofs.shown_values.lengthened.Goals as goal

pub returns-in-PskExchange : goal.returns-in-PskExchange
returns-in-PskExchange c = λ f free context none.
    subst (λ (x : Request). AreLonger (request_message x) (lengthened f (Some (request_message x)) c.args.more) c.longer_context.result) (sym c.in-PskExchange.is)
    (c.longer_context.ensures f free context)

pub returns-in-GetMeasurements : goal.returns-in-GetMeasurements
returns-in-GetMeasurements c = λ f free context none.
    subst (λ (x : Request). AreLonger (request_message x) (lengthened f (Some (request_message x)) c.args.more) c.longer_opaque.result) (sym c.in-GetMeasurements.is)
    (c.longer_opaque.ensures f free none)
