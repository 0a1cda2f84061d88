use Rattle.std.proofs.Common.{◌≡◌, ℕ, ◌<◌, ◌+◌, ◌*◌, ◌%◌, get_or, length}
use Rattle.aes.proofs.sliced_keys.shifted_back.Given as goal

abbrev pub invariant-loop-i : goal.invariant-loop-i
invariant-loop-i l = record {
  long : length l.out ≡ 16;
  filled : (j : ℕ) → j < l.i → get_or l.out j 0 ≡ get_or l.block ((j + 12 * l.k * (j % 4)) % 16) 0;
}
