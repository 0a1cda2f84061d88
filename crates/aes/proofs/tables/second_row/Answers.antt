use Rattle.aes.proofs.Rows.{get_or-second_row}
use Rattle.aes.proofs.tables.second_row.Goals as goal

pub returns : goal.returns
returns c = get_or-second_row c.args.x c.ranges.x.fits
