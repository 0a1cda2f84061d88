use Rattle.boot_keeper.proofs.Rising.{boots_counted_all}
use Rattle.boot_keeper.proofs.laws.boots_are_counted.Goals as goal

pub returns : goal.returns
returns c = boots_counted_all
