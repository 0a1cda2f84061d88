use Rattle.std.proofs.Common.{◌≡◌, ◌<◌, ℕ, get_or}
use Rattle.byte_compare.proofs.same_bytes.Given as goal

abbrev pub invariant-loop-i : goal.invariant-loop-i
invariant-loop-i l = record {
  same : l.differing ≡ 0 → (k : ℕ) → k < l.i → get_or l.a k 0 ≡ get_or l.b k 0;
  none : ((k : ℕ) → k < l.i → get_or l.a k 0 ≡ get_or l.b k 0) → l.differing ≡ 0;
}
