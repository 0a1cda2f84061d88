-- The round keys by slices. This project's own.
use Rattle.std.specs.Prelude.{◌≡◌, ℕ, ◌+◌, ◌*◌, ◌%◌, ◌<◌, ◌==◌, List, map, slice_index, slice_index_or, if◌then◌else◌}
use Rattle.std.specs.List.{range_with_len}
use Rattle.aes.specs.Cipher.{round_key, round_keys, round_count}
use Rattle.aes.specs.Slices.{block_at}
use Rattle.aes.specs.declared.slices.Slices.{Slices}

-- A block whose row r went k r places to the right.
abbrev pub shifted_back : ℕ → List ℕ → List ℕ
shifted_back k s = map (λ i. slice_index s ((i + 12 * k * (i % 4)) % 16)) (range_with_len 0 16)

-- How often the rows of the state were shifted without moving a byte when the key of round n of nr is added. Four times is none, and the last round moves them.
abbrev pub turns : ℕ → ℕ → ℕ
turns nr n = if n == nr then 0 else n % 4

-- The slices have the round keys of a key, from that before the first round to that of the last, each once for each of four blocks.
abbrev pub IsSlicedSchedule : List Slices → List ℕ → Type 0
IsSlicedSchedule keys key =
    (n b : ℕ) (none : Slices) → n < round_count key + 1 → b < 4 → block_at (turns (round_count key) n) (slice_index_or keys n none) b ≡ round_key (round_keys key) n
