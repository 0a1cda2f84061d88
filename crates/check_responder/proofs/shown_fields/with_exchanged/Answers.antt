use Rattle.std.proofs.Common.{sym, subst, Some}
use Rattle.responder_core.specs.Free.{IsFree}
use Rattle.spdm_grammar.specs.Message.{response_message}
use Rattle.spdm_grammar.specs.Message.RequestMessage.{PskExchange}
use Rattle.spdm_grammar.specs.declared.messages.response.Response.{Response}
use Rattle.check_laws.specs.AnswersShown.{with_fields}
use Rattle.check_responder.proofs.shown_fields.with_exchanged.Goals as goal

pub returns-in-PskExchangeRsp : goal.returns-in-PskExchangeRsp
returns-in-PskExchangeRsp c = λ f asked free.
    subst (λ (x : Response). IsFree c.with_exchange.result (with_fields f (Some (PskExchange asked)) (Some (response_message x)))) (sym c.in-PskExchangeRsp.is) (c.with_exchange.ensures f free)
