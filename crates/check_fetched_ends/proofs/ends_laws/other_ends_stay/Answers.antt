use Rattle.check_fetched_ends.proofs.EndsStay.{other_ends}
use Rattle.check_fetched_ends.proofs.ends_laws.other_ends_stay.Goals as goal

pub returns : goal.returns
returns c = other_ends c.other_places_stay.ensures
