use Rattle.aes.proofs.Table.{get_or-SBOX}
use Rattle.aes.proofs.sbox.substitute.Goals as goal

pub returns : goal.returns
returns c = get_or-SBOX c.args.x c.ranges.x.fits
