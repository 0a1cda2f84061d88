use Rattle.std.proofs.Common.{◌≡◌, ℕ, ◌*◌, ◌<◌, ◌≤◌, get_or}
use Rattle.aes_gcm.specs.Behind.{crypted_behind}
use Rattle.aes_gcm.proofs.counter.crypt_rest.Given as goal

abbrev pub invariant-loop-i : goal.invariant-loop-i
invariant-loop-i l = record {
  done : (k : ℕ) → 16 * l.n ≤ k → k < l.i → get_or l.text k 0 ≡ crypted_behind l.first l.aes l.iv l.fn.text k;
  before : (k : ℕ) → k < 16 * l.n → get_or l.text k 0 ≡ get_or l.fn.text k 0;
  behind : (k : ℕ) → l.i ≤ k → get_or l.text k 0 ≡ get_or l.fn.text k 0;
}
