use Rattle.aes.proofs.Rows.{get_or-first_row}
use Rattle.aes.proofs.tables.first_row.Goals as goal

pub returns : goal.returns
returns c = get_or-first_row c.args.x c.ranges.x.fits
