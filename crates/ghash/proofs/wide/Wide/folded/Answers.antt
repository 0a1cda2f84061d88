use Rattle.std.proofs.Common.{rules}
use Rattle.ghash.proofs.Moves.{folded_is}
use Rattle.ghash.proofs.wide.Wide.folded.Goals as goal

pub returns : goal.returns
returns c = folded_is c.args.self.now.high c.args.self.now.low (search rules)
