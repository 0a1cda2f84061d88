use Rattle.aes.proofs.Packs.{spread_at, spread_high_at, spread_low, spread_high, spread_words, halves}
use Rattle.aes.proofs.Sources.{value}
use Rattle.aes.proofs.packing.spread.Goals as goal

pub returns-clause-low : goal.returns-clause-low
unfolding spread_low spread_words halves value
returns-clause-low c = spread_at c.args.block c.ranges.block.fits

pub returns-clause-high : goal.returns-clause-high
unfolding spread_high spread_words halves value
returns-clause-high c = spread_high_at c.args.block c.ranges.block.fits
