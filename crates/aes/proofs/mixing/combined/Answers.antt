use Rattle.aes.proofs.Mixes.{combined_at, combined_of}
use Rattle.aes.proofs.mixing.combined.Goals as goal

pub returns : goal.returns
unfolding combined_of
returns c = combined_at c.args.next.now c.args.sum.now c.args.rest.now
