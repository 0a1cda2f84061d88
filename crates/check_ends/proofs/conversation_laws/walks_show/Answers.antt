use Rattle.check_ends.proofs.WalkRows.{walks_show}
use Rattle.check_ends.proofs.conversation_laws.walks_show.Goals as goal

pub returns : goal.returns
returns c = walks_show c.one_changes_rows.ensures c.rows_are_of_all.ensures
