use Rattle.std.proofs.Common.{◌≡◌, ◌+◌, ◌*◌, ◌≤◌, length}
use Rattle.aes.specs.Cipher.{expanded}
use Rattle.aes.proofs.expansion.expanded_by.Given as goal

abbrev pub invariant-loop-n : goal.invariant-loop-n
invariant-loop-n l = record {
  small : l.nk ≤ 8;
  bytes : l.bytes.items ≡ expanded l.key l.n;
  long : length l.bytes.items ≡ 4 * l.nk + 4 * l.n;
}
