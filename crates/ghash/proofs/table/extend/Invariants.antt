use Rattle.std.proofs.Common.{◌≡◌, ◌<◌, ◌+◌, ◌*◌, ◌^◌, ℕ, get_or, length}
use Rattle.ghash.specs.Field.{product}
use Rattle.ghash.proofs.table.extend.Given as goal

abbrev pub invariant-loop-w : goal.invariant-loop-w
invariant-loop-w l = record {
  long : length l.table ≡ 64;
  count : l.count ≡ 2 ^ l.i;
  below : (k : ℕ) → k < 2 ^ l.i → get_or l.table k 0 ≡ product (k * 2 ^ 122) l.b;
  done : (k : ℕ) → k < l.w → get_or l.table (2 ^ l.i + k) 0 ≡ product ((2 ^ l.i + k) * 2 ^ 122) l.b;
}
