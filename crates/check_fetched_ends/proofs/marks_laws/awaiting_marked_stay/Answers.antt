use Rattle.check_fetched_ends.proofs.MarksStay.{awaiting_marked}
use Rattle.check_fetched_ends.proofs.marks_laws.awaiting_marked_stay.Goals as goal

pub returns : goal.returns
returns c = awaiting_marked c.awaiting_ends_stay.ensures
