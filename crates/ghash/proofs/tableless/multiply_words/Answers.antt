use Rattle.std.proofs.Common.{◌/◌, ◌^◌, ◌<◌, ◌∙◌, arith, ap, rules}
use Rattle.std.specs.Prelude.{bit_xor}
use Rattle.std.proofs.lemmas.Nat.{xor_lt}
use Rattle.ghash.proofs.Blocks.{by_words, product-below}
use Rattle.ghash.proofs.tableless.multiply_words.Goals as goal

pub returns-clause-value : goal.returns-clause-value
returns-clause-value c =
    let high = c.carry_less-high.result in
    let low = c.carry_less-low.result in
    let middle = bit_xor c.carry_less.result (bit_xor high low) in
    c.plus.ensures.value
    ∙ by_words c.args.a c.args.b high low middle c.carry_less-high.ensures c.carry_less-low.ensures (search rules)
    (ap (λ t. bit_xor t (bit_xor high low)) c.carry_less.ensures)

pub returns-clause-room : goal.returns-clause-room
returns-clause-room c =
    let high = c.carry_less-high.result in
    let middle = bit_xor c.carry_less.result (bit_xor high c.carry_less-low.result) in
    let less : high < 2 ^ 127 = rw c.carry_less-high.ensures (product-below (c.args.a / 2 ^ 64) (c.args.b / 2 ^ 64) (omega arith)) in
    let fits : middle < 2 ^ 128 = xor_lt 128 c.carry_less.result (bit_xor high c.carry_less-low.result) (search rules) (xor_lt 128 high c.carry_less-low.result (search rules) (search rules)) in
    rw c.plus.ensures.high (xor_lt 127 high (middle / 2 ^ 64) less (omega arith))
