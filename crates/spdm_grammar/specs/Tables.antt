-- The algorithm structure at the front of bytes.
use Rattle.std.specs.Prelude.{◌+◌, ◌*◌, ◌/◌, ◌%◌, ◌==◌, ◌||◌, not, nat_lt, ℕ, List, length, slice_index, if◌then◌else◌, Option, Some, None}

-- Its length, if one stands there whole.
abbrev pub first_table : List ℕ → Option ℕ
first_table bytes =
    if nat_lt (length bytes) 4 || not (slice_index bytes 1 / 16 == 2) then None
    else (if nat_lt (length bytes) (4 + 4 * (slice_index bytes 1 % 16)) then None
    else Some (4 + 4 * (slice_index bytes 1 % 16)))
