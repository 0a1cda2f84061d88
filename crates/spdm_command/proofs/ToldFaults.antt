-- The fault of a text of messages, as the command tells it.
use Rattle.std.proofs.Common.{◌≡◌, ℕ, List, Option, Some, None, Result, Ok, Err}
use Rattle.script_text.specs.declared.texts.faults.LineFault.{LineFault}
use Rattle.script_text.specs.declared.texts.faults.ScriptFault.{ScriptFault}
use Rattle.script_text.specs.declared.texts.faults.ScriptFault.TheVariants as fault
use Rattle.script_text.specs.declared.texts.shown.Shown.{Shown}
use Rattle.spdm_show.specs.Shown.{IsBad}
use Rattle.spdm_show.specs.declared.showing.ShowFault.TheVariants as told
use Rattle.script_text.specs.Reading.{BadLine, bad_line_in}
use Rattle.spdm_command.specs.declared.output.TextFault.{TextFault}
use Rattle.spdm_command.specs.declared.output.TextFault.TheVariants as output

-- A fault that is told of a line is the first bad line.
pub bad_told : (reading : Result (List Shown) ScriptFault) (line : ℕ) (f : LineFault) → IsBad reading (told.Line line f) → bad_line_in reading ≡ Some (record { line = line; fault = f })
bad_told (Ok shown) line f bad = absurd bad
bad_told (Err (fault.Line number g)) line f bad = search
bad_told (Err (fault.TooManyEvents number)) line f bad = search
bad_told (Err fault.OutOfMemory) line f bad = search

-- The bad line that an answer tells.
abbrev pub bad_in : Result (Unit {0}) TextFault → Option BadLine
bad_in (Err (output.Line line f)) = Some (record { line = line; fault = f })
bad_in _ = None
