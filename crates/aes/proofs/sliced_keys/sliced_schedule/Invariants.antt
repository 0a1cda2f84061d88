use Rattle.std.proofs.Common.{◌≡◌, ◌<◌, ◌%◌, ℕ, length, get_or}
use Rattle.aes.specs.Cipher.{round_key}
use Rattle.aes.specs.Slices.{block_at}
use Rattle.aes.specs.declared.slices.Slices.{Slices}
use Rattle.aes.proofs.sliced_keys.sliced_schedule.Given as goal

abbrev pub invariant-loop-n : goal.invariant-loop-n
invariant-loop-n l = record {
  count : length l.keys.items ≡ l.n;
  made : (m b : ℕ) (none : Slices) → m < l.n → b < 4 → block_at (m % 4) (get_or l.keys.items m none) b ≡ round_key l.bytes m;
}
