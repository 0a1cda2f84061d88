use Rattle.std.proofs.Common.{◌∙◌}
use Rattle.link_world.proofs.FewTaken.{taken_whole}
use Rattle.link_world.proofs.world.World.totals.Goals as goal

pub returns-clause-taken : goal.returns-clause-taken
returns-clause-taken c = λ w stands. stands.ends.taken ∙ taken_whole c.args.self.now.link.ends w stands.ends
