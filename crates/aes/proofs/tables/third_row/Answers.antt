use Rattle.aes.proofs.Rows.{get_or-third_row}
use Rattle.aes.proofs.tables.third_row.Goals as goal

pub returns : goal.returns
returns c = get_or-third_row c.args.x c.ranges.x.fits
