-- How many lines begin in bytes.
use Rattle.std.proofs.Common.{◌-◌, ℕ, List, Bool, length}
use Rattle.std.specs.Prelude.{if◌then◌else◌}
use Rattle.script_text.specs.Lines.{lines_of}

-- of bytes of which the first begins a line or not
abbrev pub begun_in : (begins : Bool) → List ℕ → ℕ
begun_in begins bytes = if begins then length (lines_of bytes) else length (lines_of bytes) - 1
