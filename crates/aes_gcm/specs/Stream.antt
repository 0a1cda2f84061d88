-- Four blocks of the key stream at once. This project's own.
use Rattle.std.specs.Prelude.{◌≡◌, ℕ, ◌+◌, ◌*◌, ◌/◌, ◌%◌, ◌<◌, List, slice_index}
use Rattle.aes.specs.Words.{block_bytes}
use Rattle.aes_gcm.specs.Gcm.{stream_block}

-- Numbers are four blocks of the key stream, and block n is among them. Block 0 is the one with the counter 1, and the first of the four has a number that is divisible by four.
abbrev pub HasBlock : List ℕ → List ℕ → List ℕ → ℕ → Type 0
HasBlock stream key iv n = (b : ℕ) → b < 4 → block_bytes (slice_index stream b) ≡ stream_block key iv (n / 4 * 4 + 1 + b)

-- Block n is among them, or begins the next four.
abbrev pub IsReady : List ℕ → List ℕ → List ℕ → ℕ → Type 0
IsReady stream key iv n = 0 < n % 4 → HasBlock stream key iv n
