use Rattle.std.proofs.Common.{◌≡◌, ◌-◌}
use Rattle.negotiate.specs.Tables.{tables_in, value_of}
use Rattle.negotiate.proofs.tables.value_of.Given as goal

abbrev pub invariant-loop-i : goal.invariant-loop-i
invariant-loop-i l = value_of l.kind (tables_in (l.count - l.i) l.rest) ≡ value_of l.kind (tables_in l.count l.tables)
