use Rattle.check_laws.proofs.OrderedRows.{other_places_stay}
use Rattle.check_laws.proofs.row_laws.other_places_stay.Goals as goal

pub returns : goal.returns
returns c = other_places_stay
