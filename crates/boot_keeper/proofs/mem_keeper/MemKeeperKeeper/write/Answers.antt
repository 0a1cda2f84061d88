use Rattle.std.proofs.Common.{◌+◌, ◌≤◌, length, take, arith}
use Rattle.std.proofs.lemmas.Grind.{common_steps}
use Rattle.boot_keeper.proofs.Written.{torn_told}
use Rattle.boot_keeper.proofs.mem_keeper.MemKeeperKeeper.write.Goals as goal

pub returns-then-fails-clause-tears : goal.returns-then-fails-clause-tears
returns-then-fails-clause-tears c =
    let half = take c.div_ceil.result c.args.from.now in
    let few : length half ≤ length c.args.from.now = grind (arith, common_steps) in
    let fits : c.args.at + length c.args.from.now ≤ length c.fails.new.self.held = omega (arith, c.put.ensures.size, c.requires) in
    torn_told c.args.self.now.held c.fails.new.self.held c.put.new.self.held c.args.at (length c.args.from.now) half c.fails.ensures.held c.put.ensures.held fits few
