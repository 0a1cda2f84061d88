-- What a line says of the packet that waits for its application. This project's own.
use Rattle.std.specs.Prelude.{◌&&◌, ℕ, List, bytes_eq, codes, drop, take, if◌then◌else◌, Option, Some, None}
use Rattle.script_text.specs.HexWords.{bytes_of, is_hex_in, most_bytes}

-- It is answered without data, or with these.
pub data Answer : Type 0 where
  WithoutData : Answer
  WithData : (bytes : List ℕ) → Answer

-- The data of a line `reply H`, if it is one: H is the bytes of a script, pairs of digits or `-`.
abbrev pub data_in : List ℕ → Option (List ℕ)
data_in line =
    if bytes_eq (take 6 line) (codes "reply ") && is_hex_in 0 most_bytes (drop 6 line) then Some (bytes_of (drop 6 line)) else None

abbrev pub with_data : Option (List ℕ) → Option Answer
with_data None = None
with_data (Some bytes) = Some (WithData bytes)

-- The answer of a line, which is `none` or `reply H`, if it is one of these.
unfoldable pub answer_in : List ℕ → Option Answer
answer_in line = if bytes_eq line (codes "none") then Some WithoutData else with_data (data_in line)
