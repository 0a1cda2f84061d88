use Rattle.check_laws.proofs.Large.CommandsShown.{whole_is_shown}
use Rattle.check_laws.proofs.sending_large.laws.whole_is_shown.Goals as goal

pub returns : goal.returns
returns c = whole_is_shown
