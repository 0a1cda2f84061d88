use Rattle.aes.proofs.ColumnSums.{mixed_is}
use Rattle.aes.proofs.columns.mixed.Goals as goal

pub returns-clause-bytes : goal.returns-clause-bytes
returns-clause-bytes c =
    rw (c.first_row.ensures, c.second_row.ensures, c.third_row.ensures, c.fourth_row.ensures)
    (mixed_is c.args.a c.args.b c.args.c c.args.d c.ranges.a.fits c.ranges.b.fits c.ranges.c.fits c.ranges.d.fits)
