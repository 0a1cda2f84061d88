use Rattle.check_fetched_ends.proofs.MarksStay.{other_marked}
use Rattle.check_fetched_ends.proofs.marks_laws.other_marked_stay.Goals as goal

pub returns : goal.returns
returns c = other_marked c.other_ends_stay.ensures
