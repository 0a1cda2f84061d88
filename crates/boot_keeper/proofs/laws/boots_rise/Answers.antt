use Rattle.boot_keeper.proofs.Rising.{boots_rise_all}
use Rattle.boot_keeper.proofs.laws.boots_rise.Goals as goal

pub returns : goal.returns
returns c = boots_rise_all
