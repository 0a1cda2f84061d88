use Rattle.std.proofs.Common.{◌≡◌, ◌<◌, ◌*◌, ℕ, get_or}
use Rattle.aes.specs.Cipher.{rounds, round_keys}
use Rattle.aes.specs.Words.{block_bytes}
use Rattle.aes.specs.Slices.{block_at}
use Rattle.aes.proofs.sliced.SlicedAes.encrypt_four.Given as goal

abbrev pub invariant-loop-n : goal.invariant-loop-n
invariant-loop-n l =
    (b : ℕ) → b < 4 → block_at 0 l.state b ≡ rounds (round_keys l.self) (block_bytes (get_or l.blocks b 0)) (4 * l.n)
