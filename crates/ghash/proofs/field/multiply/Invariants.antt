use Rattle.std.proofs.Common.{◌≡◌}
use Rattle.ghash.specs.Field.{row, rows}
use Rattle.ghash.proofs.field.multiply.Given as goal

abbrev pub invariant-loop-i : goal.invariant-loop-i
invariant-loop-i l = record { sum : l.sum ≡ rows l.a l.b l.i; shifted : l.shifted ≡ row l.b l.i 128 }
