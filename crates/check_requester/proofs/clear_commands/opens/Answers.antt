use Rattle.std.proofs.Common.{refl}
use Rattle.spdm_grammar.specs.Message.{exchange_message}
use Rattle.spdm_machine.specs.Bodies.{clear_body}
use Rattle.check_requester.proofs.ClearRead.{opened_as}
use Rattle.check_requester.proofs.ClearTold.{full_told}
use Rattle.check_requester.proofs.clear_commands.opens.Goals as goal
use Rattle.check_requester.specs.Commanded.{values_in}

pub returns-then-not-may_open : goal.returns-then-not-may_open
returns-then-not-may_open c = λ q h kept short none stands allowed.
    full_told q h (values_in (exchange_message c.args.exchange.now)) c.args.exchange.now.summary (clear_body c.args.message.now) c.args.asking.now (c.may_open.ensures.refused q h kept short none stands c.if-not-may_open.true allowed)

pub returns : goal.returns
returns c = λ q h kept short none stands.
    let allowed = c.may_open.ensures.allowed q h kept short none stands c.if-not-may_open.false in
    opened_as q h (exchange_message c.args.exchange.now) (clear_body c.args.message.now) c.tells.result c.tells.new.asking allowed
    (c.tells.ensures q h (values_in (exchange_message c.args.exchange.now)) kept (record { id = refl; context = refl; opaque = refl }) refl allowed short stands refl)
