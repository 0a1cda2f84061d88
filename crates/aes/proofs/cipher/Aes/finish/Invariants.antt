use Rattle.std.proofs.Common.{◌≡◌, ◌+◌, ◌*◌, ℕ, List}
use Rattle.aes.specs.Cipher.{rounds, round_keys}
use Rattle.aes.specs.Words.{bytes_of}
use Rattle.aes.proofs.cipher.Aes.finish.Given as goal

abbrev pub invariant-loop-n : goal.invariant-loop-n
invariant-loop-n l =
    (block : List ℕ) → bytes_of l.fn.second ≡ rounds (round_keys l.self) block 2 → bytes_of l.state ≡ rounds (round_keys l.self) block (2 * l.n + 3)
