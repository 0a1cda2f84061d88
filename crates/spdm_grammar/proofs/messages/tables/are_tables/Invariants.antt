use Rattle.std.proofs.Common.{◌-◌}
use Rattle.std.specs.Prelude.{◌↔◌}
use Rattle.spdm_grammar.specs.Layout.{AreTables}
use Rattle.spdm_grammar.proofs.messages.tables.are_tables.Given as goal

abbrev pub invariant-loop-i : goal.invariant-loop-i
invariant-loop-i l = AreTables l.count l.bytes ↔ AreTables (l.count - l.i) l.rest
