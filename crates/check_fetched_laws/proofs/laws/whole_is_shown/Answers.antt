use Rattle.check_fetched_laws.proofs.WholeLed.{whole_is_shown}
use Rattle.check_fetched_laws.proofs.laws.whole_is_shown.Goals as goal

pub returns : goal.returns
returns c = whole_is_shown
