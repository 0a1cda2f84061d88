use Rattle.std.proofs.Common.{refl, sym, subst}
use Rattle.spdm_grammar.specs.Message.{request_message}
use Rattle.spdm_grammar.specs.declared.messages.request.Request.{Request}
use Rattle.spdm_machine.specs.Bodies.{clear_body}
use Rattle.check_requester.proofs.clear_commands.sends_request.Goals as goal
use Rattle.check_requester.specs.Commanded.{IsSentFor}

pub returns-in-GetVersion : goal.returns-in-GetVersion
returns-in-GetVersion c = λ q h kept short none stands.
    subst (λ (r : Request). IsSentFor q h (request_message r) (clear_body c.args.message.now) c.tells_plainly.result c.tells_plainly.new.asking) (sym c.in-GetVersion.is)
    (c.tells_plainly.ensures q h kept short stands refl)

pub returns-in-GetMeasurements : goal.returns-in-GetMeasurements
returns-in-GetMeasurements c = λ q h kept short none stands.
    subst (λ (r : Request). IsSentFor q h (request_message r) (clear_body c.args.message.now) c.tells_plainly-in-GetMeasurements.result c.tells_plainly-in-GetMeasurements.new.asking) (sym c.in-GetMeasurements.is)
    (c.tells_plainly-in-GetMeasurements.ensures q h kept short stands refl)

pub returns-in-PskExchange : goal.returns-in-PskExchange
returns-in-PskExchange c = λ q h kept short none stands.
    subst (λ (r : Request). IsSentFor q h (request_message r) (clear_body c.args.message.now) c.opens.result c.opens.new.asking) (sym c.in-PskExchange.is) (c.opens.ensures q h kept short none stands)
