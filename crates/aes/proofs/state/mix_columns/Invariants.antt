use Rattle.std.proofs.Common.{◌≡◌, ℕ, ◌<◌, get_or, length}
use Rattle.aes.specs.Cipher.{mixed}
use Rattle.aes.proofs.state.mix_columns.Given as goal

abbrev pub invariant-loop-i : goal.invariant-loop-i
invariant-loop-i l = record {
  long : length l.out ≡ 16;
  filled : (k : ℕ) → k < l.i → get_or l.out k 0 ≡ mixed l.s k;
}
