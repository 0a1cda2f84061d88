use Rattle.std.proofs.Common.{◌≡◌, ℕ, ◌+◌, ◌*◌, ◌<◌, ◌≤◌, get_or, length}
use Rattle.aes_gcm.specs.Stream.{IsReady}
use Rattle.aes_gcm.specs.Behind.{crypted_behind}
use Rattle.aes_gcm.proofs.counter.crypt_from.Given as goal

abbrev pub invariant-loop-n : goal.invariant-loop-n
invariant-loop-n l = record {
  stream : IsReady l.stream l.aes l.iv (l.first + l.n + 1);
  long : length l.text ≡ length l.fn.text;
  done : (k : ℕ) → k < 16 * l.n → get_or l.text k 0 ≡ crypted_behind l.first l.aes l.iv l.fn.text k;
  rest : (k : ℕ) → 16 * l.n ≤ k → get_or l.text k 0 ≡ get_or l.fn.text k 0;
}
