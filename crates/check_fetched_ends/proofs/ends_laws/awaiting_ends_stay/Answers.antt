use Rattle.check_fetched_ends.proofs.EndsStay.{awaiting_ends}
use Rattle.check_fetched_ends.proofs.ends_laws.awaiting_ends_stay.Goals as goal

pub returns : goal.returns
returns c = awaiting_ends
