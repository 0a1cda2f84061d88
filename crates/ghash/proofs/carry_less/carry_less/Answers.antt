use Rattle.std.proofs.Common.{◌∙◌, ap}
use lib.Bits.{bit_and, bit_xor}
use Rattle.ghash.proofs.Fourths.{wide_mask}
use Rattle.ghash.proofs.Words.{four, sums, same-four, by_fourths}
use Rattle.ghash.proofs.carry_less.carry_less.Goals as goal

pub returns : goal.returns
returns c =
    let x = c.args.x in
    let y = c.args.y in
    let last = c.sum_of_products-last.result in
    ap (λ t. bit_xor t last)
    (same-four
    (bit_and c.sum_of_products.result (wide_mask 0)) (bit_and c.sum_of_products-2.result (wide_mask 1))
    (bit_and c.sum_of_products-3.result (wide_mask 2)) (bit_and c.sum_of_products-4.result (wide_mask 3))
    (sums x y 0 3 2 1 0) (sums x y 1 0 3 2 1) (sums x y 2 1 0 3 2) (sums x y 3 2 1 0 3)
    (ap (λ t. bit_and t (wide_mask 0)) c.sum_of_products.ensures)
    (ap (λ t. bit_and t (wide_mask 1)) c.sum_of_products-2.ensures)
    (ap (λ t. bit_and t (wide_mask 2)) c.sum_of_products-3.ensures)
    (ap (λ t. bit_and t (wide_mask 3)) c.sum_of_products-4.ensures))
    ∙ ap (bit_xor (four (sums x y 0 3 2 1 0) (sums x y 1 0 3 2 1) (sums x y 2 1 0 3 2) (sums x y 3 2 1 0 3))) c.sum_of_products-last.ensures
    ∙ by_fourths x y c.ranges.x.fits c.ranges.y.fits
