use Rattle.std.proofs.Common.{◌∙◌, ap, ℕ}
use Rattle.std.specs.Int.{bit_at}
use Rattle.aes.proofs.Packs.{gathered_at, gathered_low, gathered_high, gathered_words}
use Rattle.aes.proofs.Sources.{value}
use Rattle.aes.proofs.packing.gathered.Goals as goal

pub returns : goal.returns
unfolding gathered_low gathered_high gathered_words value
returns c = λ n h. ap (λ (t : ℕ). bit_at t n) c.joined.ensures ∙ gathered_at c.args.first c.args.second c.ranges.first.fits c.ranges.second.fits n h
