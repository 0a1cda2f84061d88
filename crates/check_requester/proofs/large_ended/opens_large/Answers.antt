use Rattle.std.proofs.Common.{◌∙◌, ap, refl, sym}
use Rattle.spdm_grammar.specs.Message.{exchange_message}
use Rattle.check_requester.proofs.LargeEnded.{fails_opens, not_opens, tells_opens}
use Rattle.check_requester.proofs.large_ended.opens_large.Goals as goal
use Rattle.check_requester.specs.JudgedRequester.{is_first_chunk}
use Rattle.check_requester.specs.Commanded.{values_in}
use Rattle.capture_machine.specs.Rounds.{no_draw}

pub returns-then-not-may_open : goal.returns-then-not-may_open
returns-then-not-may_open c = λ q h kept short none stands.
    not_opens q h (exchange_message c.args.exchange.now) c.args.asking.now c.args.room.now (c.may_open.ensures.refused q h kept short none stands c.if-not-may_open.true)

pub returns-then-is_err : goal.returns-then-is_err
returns-then-is_err c = λ q h kept short none stands.
    let x = exchange_message c.args.exchange.now in
    let allowed = c.may_open.ensures.allowed q h kept short none stands c.if-not-may_open.false in
    fails_opens q h x c.command.result c.command.new.out c.command.new.out c.command.new.self c.command.new.self (sym c.is_err.ensures.value ∙ c.if-is_err.true)
    (c.command.ensures q h (values_in x) no_draw (c.setup.ensures q kept) kept.psk (record { id = refl; context = refl; opaque = refl }) refl allowed short stands)

pub returns : goal.returns
returns c = λ q h kept short none stands.
    let x = exchange_message c.args.exchange.now in
    let allowed = c.may_open.ensures.allowed q h kept short none stands c.if-not-may_open.false in
    tells_opens q h x c.command.result c.command.new.out c.command.new.self c.is_first_chunk.result allowed (sym c.is_err.ensures.value ∙ c.if-is_err.false)
    (c.command.ensures q h (values_in x) no_draw (c.setup.ensures q kept) kept.psk (record { id = refl; context = refl; opaque = refl }) refl allowed short stands)
    (ap is_first_chunk (sym c.as_slice.ensures.value) ∙ sym c.is_first_chunk.ensures)
