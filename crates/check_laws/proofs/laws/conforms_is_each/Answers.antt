use Rattle.check_laws.proofs.EachWalks.{conforms_is_each}
use Rattle.check_laws.proofs.laws.conforms_is_each.Goals as goal

pub returns : goal.returns
returns c = conforms_is_each
