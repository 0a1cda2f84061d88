use Rattle.std.proofs.Common.{◌∙◌}
use Rattle.ghash.proofs.Sums.{absorbed}
use Rattle.ghash.proofs.tableless.TablelessHashKey.absorb_block.Goals as goal

pub returns : goal.returns
returns c = λ before e. c.times.ensures ∙ absorbed c.args.self.now c.args.sum c.args.block before e
