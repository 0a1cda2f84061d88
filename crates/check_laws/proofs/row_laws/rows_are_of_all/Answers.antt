use Rattle.check_laws.proofs.AllRows.{rows_are_of_all}
use Rattle.check_laws.proofs.row_laws.rows_are_of_all.Goals as goal

pub returns : goal.returns
returns c = rows_are_of_all
