use Rattle.std.proofs.Common.{◌≡◌, ℕ, ◌<◌, get_or, length}
use Rattle.std.specs.Prelude.{bit_xor}
use Rattle.aes.proofs.state.add_round_key.Given as goal

abbrev pub invariant-loop-i : goal.invariant-loop-i
invariant-loop-i l = record {
  long : length l.out ≡ 16;
  filled : (k : ℕ) → k < l.i → get_or l.out k 0 ≡ bit_xor (get_or l.s k 0) (get_or l.key k 0);
}
