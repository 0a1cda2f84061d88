-- What a call writes into a caller's memory.
use Rattle.std.specs.Prelude.{◌≡◌, ◌≤◌, ◌<◌, ◌++◌, ℕ, List, Option, Some, None, length, drop}
use Rattle.c_ends.specs.declared.codes.TheConstants.{NONE, OK, ROOM}

-- Bytes at the beginning of what a room held; all behind them stays.
abbrev pub over : (bytes room : List ℕ) → List ℕ
over bytes room = bytes ++ drop (length bytes) room

-- Bytes are written into a room that holds them, and their length beside it. A room that is too small stays as it was,
-- and the length that is needed is told. Where there are no bytes nothing is written.
abbrev pub IsWritten : Option (List ℕ) → (code : ℕ) → (old new : List ℕ) → (old_len len : ℕ) → Type 0
IsWritten None code old new old_len len = (code ≡ NONE) × (new ≡ old) × (len ≡ old_len)
IsWritten (Some bytes) code old new old_len len =
    (length bytes ≤ length old → (code ≡ OK) × (new ≡ over bytes old) × (len ≡ length bytes))
    × (length old < length bytes → (code ≡ ROOM) × (new ≡ old) × (len ≡ length bytes))

-- A value is written, or where there is none this code is told and nothing is written.
abbrev pub IsPut : {T : Type 0} → Option T → (none : ℕ) → (code : ℕ) → (old new : T) → Type 0
IsPut None none code old new = (code ≡ none) × (new ≡ old)
IsPut (Some value) none code old new = (code ≡ OK) × (new ≡ value)
