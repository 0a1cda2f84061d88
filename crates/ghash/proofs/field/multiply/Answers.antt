use Rattle.std.proofs.Common.{◌≡◌, ◌∙◌, ap, sym, arith}
use Rattle.std.proofs.lemmas.Grind.{common_steps}
use Rattle.ghash.specs.Field.{times_x, rows, product}
use Rattle.ghash.proofs.Products.{row-first, rows-zero, row_added, row_passed, times_x-row}
use Rattle.ghash.proofs.field.multiply.Goals as goal
use Rattle.ghash.proofs.field.multiply.Goals.{then-has_power, else-has_power}

pub loop-i-init : goal.loop-i-init
loop-i-init c = record {
  sum = rows-zero c.args.a c.args.b;
  shifted = sym (row-first c.args.b c.ranges.b.fits);
}

pub loop-i-preserved : goal.loop-i-preserved
loop-i-preserved c = record {
  sum = elim c.if-has_power.branch [
    | then-has_power w ↦ w.sum-is ∙ row_added c.args.a c.args.b c.loop-i.i c.loop-i.sum c.loop-i.shifted c.loop-i.invariant.sum c.loop-i.invariant.shifted (grind (arith, common_steps))
    | else-has_power w ↦ w.sum-is ∙ row_passed c.args.a c.args.b c.loop-i.i c.loop-i.sum c.loop-i.invariant.sum (grind (arith, common_steps))
  ];
  shifted = c.times_x-shifted.ensures ∙ ap times_x c.loop-i.invariant.shifted ∙ times_x-row c.args.b c.loop-i.i 128;
}

pub returns : goal.returns
unfolding product
returns c = let e : c.loop-i.i ≡ 128 = omega arith in c.loop-i.invariant.sum ∙ ap (rows c.args.a c.args.b) e
