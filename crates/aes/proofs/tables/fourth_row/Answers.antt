use Rattle.aes.proofs.Rows.{get_or-fourth_row}
use Rattle.aes.proofs.tables.fourth_row.Goals as goal

pub returns : goal.returns
returns c = get_or-fourth_row c.args.x c.ranges.x.fits
