use Rattle.std.proofs.Common.{rules, ◌≡◌, ◌+◌, arith, Err}
use Rattle.boot_keeper.specs.declared.boot_fault.BootFault.TheVariants.{KeeperFault}
use Rattle.boot_keeper.specs.Boots.{BootsNext}
use Rattle.boot_keeper.specs.Device.{GivesBytes, TakesAll, TakesSome}
use Rattle.boot_keeper.specs.Slots.{three_writes}
use Rattle.boot_keeper.proofs.Found.{spent_next, taken_next, torn_next}
use Rattle.boot_keeper.proofs.boots.next_boot.Goals as goal

pub returns-then-found-from-clause-next : goal.returns-then-found-from-clause-next
returns-then-found-from-clause-next g c =
    let held = g.P.Keeper.contents in
    let gives : GivesBytes (held c.args.keeper.now) 0 c.read.new.into = search rules in
    spent_next (held c.args.keeper.now) (held c.read.new.self) c.read.new.into c.greatest-found.result gives (omega arith) c.read.ensures.same c.greatest-found.ensures (omega arith)

pub returns-in_err-map_err-2-clause-next : goal.returns-in_err-map_err-2-clause-next
returns-in_err-map_err-2-clause-next g c =
    let held = g.P.Keeper.contents in
    let gives : GivesBytes (held c.args.keeper.now) 0 c.read.new.into = search rules in
    let some : TakesSome (held c.read.new.self) (three_writes c.free.result (c.greatest-found.result + 1)) (held c.renew.new.keeper) = search rules in
    let next : BootsNext (held c.args.keeper.now) (Err KeeperFault) (held c.renew.new.keeper) =
    torn_next (held c.args.keeper.now) (held c.read.new.self) (held c.renew.new.keeper) c.read.new.into c.greatest-found.result c.free.result gives (omega arith) c.read.ensures.same c.greatest-found.ensures (omega arith) c.free.ensures some in
    let is : c.from_residual-in_err-map_err-2.result ≡ Err KeeperFault = search rules in
    rw is next

pub returns-clause-next : goal.returns-clause-next
returns-clause-next g c =
    let held = g.P.Keeper.contents in
    let gives : GivesBytes (held c.args.keeper.now) 0 c.read.new.into = search rules in
    let all : TakesAll (held c.read.new.self) (three_writes c.free.result (c.greatest-found.result + 1)) (held c.renew.new.keeper) = search rules in
    taken_next (held c.args.keeper.now) (held c.read.new.self) (held c.renew.new.keeper) c.read.new.into c.greatest-found.result c.free.result gives (omega arith) c.read.ensures.same c.greatest-found.ensures (omega arith) c.free.ensures all
