-- The round keys as states. This project's own.
use Rattle.std.specs.Prelude.{◌≡◌, ℕ, ◌+◌, List, map}
use Rattle.std.specs.List.{range_with_len}
use Rattle.aes.specs.Cipher.{round_key, round_keys, round_count}
use Rattle.aes.specs.Words.{bytes_of}
use Rattle.aes.specs.declared.columns.Columns.{Columns}

-- The states are those of the round keys of a key, from that before the first round to that of the last.
abbrev pub IsSchedule : List Columns → List ℕ → Type 0
IsSchedule keys key = map bytes_of keys ≡ map (round_key (round_keys key)) (range_with_len 0 (round_count key + 1))
