use Rattle.check_laws.proofs.AllRows.{one_changes_rows}
use Rattle.check_laws.proofs.row_laws.one_changes_rows.Goals as goal

pub returns : goal.returns
returns c = one_changes_rows
