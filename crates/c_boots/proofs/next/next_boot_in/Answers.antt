use Rattle.c_boots.proofs.Booted.{booted, spent}
use Rattle.c_boots.proofs.next.next_boot_in.Goals as goal

pub returns-in-Ok : goal.returns-in-Ok
returns-in-Ok c =
    booted c.args.device.now c.new-keeper.result c.next_boot.new.keeper c.bytes.result c.args.boot.now c.in-Ok.number c.new-keeper.ensures c.bytes.ensures c.in-Ok.ensures.next

pub returns-in-Err-Spent : goal.returns-in-Err-Spent
returns-in-Err-Spent c =
    spent c.args.device.now c.new-keeper.result c.next_boot.new.keeper c.args.boot.now c.in-Err-Spent.field-0 c.new-keeper.ensures c.in-Err-Spent.field-0-is c.in-Err-Spent.ensures.next
