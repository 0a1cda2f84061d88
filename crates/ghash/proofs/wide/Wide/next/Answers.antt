use Rattle.std.proofs.Common.{◌+◌, ◌*◌, ◌/◌, ◌%◌, ◌^◌, ◌∙◌, ap}
use Rattle.std.specs.Prelude.{bit_xor}
use Rattle.ghash.specs.Windows.{number_of}
use Rattle.ghash.proofs.Sides.{upper-number, next-below}
use Rattle.ghash.proofs.wide.Wide.next.Goals as goal

pub returns-clause-value : goal.returns-clause-value
returns-clause-value c =
    let added = c.args.upper / 2 ^ 64 * 2 ^ 128 + bit_xor (c.args.upper * 2 ^ 64 % 2 ^ 128) c.args.lower in
    c.plus.ensures.value
    ∙ ap (λ t. bit_xor t added) c.shifted.ensures.value
    ∙ ap (bit_xor (number_of c.args.self.now * 64)) (upper-number c.args.upper c.args.lower c.ranges.lower.fits)

pub returns-clause-room : goal.returns-clause-room
returns-clause-room c = λ k more lt.
    next-below c.plus.result.high c.shifted.result.high c.args.upper k more c.plus.ensures.high (c.shifted.ensures.room k lt) c.ranges.upper.fits
