use Rattle.reset_laws.proofs.Versioned.{resets_give_up}
use Rattle.reset_laws.proofs.laws.reset_gives_up.Goals as goal

pub returns : goal.returns
returns c = resets_give_up
