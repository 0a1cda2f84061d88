use Rattle.std.proofs.Common.{◌≡◌, ◌∙◌, ap, sym, arith}
use Rattle.ghash.specs.Field.{times_x}
use Rattle.ghash.specs.Windows.{moved}
use Rattle.ghash.proofs.Parts.{product-single, product-none}
use Rattle.ghash.proofs.table.table_of.Goals as goal

pub extend-requires-clause-entry : goal.extend-requires-clause-entry
unfolding moved
extend-requires-clause-entry c =
    let b = c.args.b in
    c.times_x-sixth.ensures
    ∙ ap times_x (c.times_x-fifth.ensures ∙ ap times_x (c.times_x-fourth.ensures ∙ ap times_x (c.times_x-third.ensures ∙ ap times_x c.times_x-second.ensures)))
    ∙ sym (product-single b 5 (omega arith) c.ranges.b.fits)

pub extend-requires-clause-below : goal.extend-requires-clause-below
extend-requires-clause-below c = λ w lt. let z : w ≡ 0 = omega arith in rw z (product-none c.args.b)

pub extend-requires-2-clause-entry : goal.extend-requires-2-clause-entry
unfolding moved
extend-requires-2-clause-entry c =
    c.times_x-fifth.ensures
    ∙ ap times_x (c.times_x-fourth.ensures ∙ ap times_x (c.times_x-third.ensures ∙ ap times_x c.times_x-second.ensures))
    ∙ sym (product-single c.args.b 4 (omega arith) c.ranges.b.fits)

pub extend-requires-3-clause-entry : goal.extend-requires-3-clause-entry
unfolding moved
extend-requires-3-clause-entry c =
    c.times_x-fourth.ensures
    ∙ ap times_x (c.times_x-third.ensures ∙ ap times_x c.times_x-second.ensures)
    ∙ sym (product-single c.args.b 3 (omega arith) c.ranges.b.fits)

pub extend-requires-4-clause-entry : goal.extend-requires-4-clause-entry
unfolding moved
extend-requires-4-clause-entry c =
    c.times_x-third.ensures ∙ ap times_x c.times_x-second.ensures ∙ sym (product-single c.args.b 2 (omega arith) c.ranges.b.fits)

pub extend-requires-5-clause-entry : goal.extend-requires-5-clause-entry
unfolding moved
extend-requires-5-clause-entry c = c.times_x-second.ensures ∙ sym (product-single c.args.b 1 (omega arith) c.ranges.b.fits)

pub extend-requires-6-clause-entry : goal.extend-requires-6-clause-entry
unfolding moved
extend-requires-6-clause-entry c = sym (product-single c.args.b 0 (omega arith) c.ranges.b.fits)
