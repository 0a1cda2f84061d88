use Rattle.std.proofs.Common.{◌≡◌, ◌<◌, ◌+◌, ◌*◌, ◌/◌, ◌%◌, ◌^◌}
use Rattle.ghash.specs.Windows.{moved, number_of}
use Rattle.ghash.proofs.Parts.{halves}
use Rattle.ghash.proofs.table.multiply_by_table.Given as goal

abbrev pub invariant-loop-j : goal.invariant-loop-j
invariant-loop-j l = record {
  first : moved (58 + 6 * l.j) (number_of l.first) ≡ halves (l.a / 2 ^ 64) (l.a % 2 ^ 64) l.b 0 (6 * l.j);
  others : moved (58 + 6 * l.j) (number_of l.others) ≡ halves (l.a / 2 ^ 64) (l.a % 2 ^ 64) l.b 30 (6 * l.j);
  first_room : l.first.high < 2 ^ (58 + 6 * l.j);
  others_room : l.others.high < 2 ^ (58 + 6 * l.j);
}
