-- What a record holds.
use Rattle.std.specs.Prelude.{◌≡◌, ℕ, List}
use Rattle.secured_record.specs.Format.{record_of}

-- Bytes are a record of an inner message, with some padding.
abbrev pub IsRecordOf : List ℕ → List ℕ → List ℕ → ℕ → List ℕ → List ℕ → Type 0
IsRecordOf key iv id number sealed inner = (pad : List ℕ) × (sealed ≡ record_of key iv id number inner pad)
