use Rattle.std.proofs.Common.{rules}
use Rattle.ghash.proofs.Sides.{sum-number}
use Rattle.ghash.proofs.wide.Wide.plus.Goals as goal

pub returns-clause-value : goal.returns-clause-value
returns-clause-value c =
    sum-number c.args.self.now.high c.args.self.now.low c.args.other.now.high c.args.other.now.low (search rules) (search rules)
