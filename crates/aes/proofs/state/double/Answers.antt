use Rattle.std.proofs.lemmas.Bool.{lt-ltb, le-ltb}
use Rattle.aes.proofs.Bytes.{doubled-times}
use Rattle.aes.proofs.state.double.Goals as goal

pub returns-then-x-lt128 : goal.returns-then-x-lt128
returns-then-x-lt128 c = rw (lt-ltb c.args.x 128 c.if-x-lt128.true) at (doubled-times c.args.x c.ranges.x.fits)

pub returns-else-x-lt128 : goal.returns-else-x-lt128
returns-else-x-lt128 c = rw (le-ltb c.args.x 128 c.if-x-lt128.false) at (doubled-times c.args.x c.ranges.x.fits)
