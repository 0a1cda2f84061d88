use Rattle.check_laws.proofs.Exclusive as exclusive
use Rattle.check_laws.proofs.laws.one_verdict.Goals as goal

pub returns : goal.returns
returns c = exclusive.one_verdict c.beginning_conforms.ensures c.conforming_has_table.ensures c.one_table.ensures c.one_reason.ensures
