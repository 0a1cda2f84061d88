use Rattle.check_late_laws.proofs.Rows.{fetching_shows}
use Rattle.check_late_laws.proofs.laws.fetching_shows.Goals as goal

pub returns : goal.returns
returns c = fetching_shows c.one_changes_rows.ensures c.rows_are_of_all.ensures
