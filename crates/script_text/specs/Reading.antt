-- How a text is read, line by line: the first bad line with its first fault, or what all lines say. This project's own.
use Rattle.std.specs.Prelude.{ℕ, List, [], ◌∷◌, ◌+◌, ◌≡◌, if◌then◌else◌, Option, Some, None, Result, Ok, Err}
use Rattle.script_text.specs.declared.texts.faults.LineError.{LineError}
use Rattle.script_text.specs.declared.texts.faults.LineError.TheVariants.{Fault, NoMemory}
use Rattle.script_text.specs.declared.texts.faults.LineFault.{LineFault}
use Rattle.script_text.specs.declared.texts.faults.LineFault.TheVariants.{LineTooLong, Incomplete, TooManyEvents}
use Rattle.script_text.specs.declared.texts.faults.ScriptFault.{ScriptFault}
use Rattle.script_text.specs.declared.texts.faults.ScriptFault.TheVariants as fault
use Rattle.script_text.specs.Lines.{is_too_long, is_passed_over}

-- Every line is tested for its length, empty lines and comments too, and these have no other fault. `fault` is the
-- first fault of another line.
abbrev pub line_fault : {S : Type 0} → (S → List ℕ → Option LineFault) → S → List ℕ → Option LineFault
line_fault fault state line =
    if is_too_long line then Some LineTooLong
    else (if is_passed_over line then None
    else fault state line)

-- Empty lines and comments say nothing. `after` is what is known after another line of a number.
abbrev pub after_line : {S : Type 0} → (S → ℕ → List ℕ → S) → S → ℕ → List ℕ → S
after_line after state number line = if is_passed_over line then state else after state number line

-- The fault of a line, as it is told of a text.
abbrev pub fault_at : ℕ → LineFault → ScriptFault
fault_at number TooManyEvents = fault.TooManyEvents number
fault_at number f = fault.Line number f

-- Why a line was not taken, as it is told of a text.
abbrev pub told_of : ℕ → LineError → ScriptFault
told_of number (Fault f) = fault_at number f
told_of number NoMemory = fault.OutOfMemory

-- A line without a fault leaves the answer to the other lines.
abbrev pub unless_bad : {V : Type 0} → ℕ → Option LineFault → Result V ScriptFault → Result V ScriptFault
unless_bad number None others = others
unless_bad number (Some f) others = Err (fault_at number f)

-- At the end of the text, of which this is the number of the line after the last, something may be missing.
abbrev pub whole_or_missing : {V : Type 0} → ℕ → Option V → Result V ScriptFault
whole_or_missing number None = Err (fault.Line number Incomplete)
whole_or_missing number (Some v) = Ok v

-- What lines say of which the first has this number.
abbrev pub read_lines : {S V : Type 0} → (S → List ℕ → Option LineFault) → (S → ℕ → List ℕ → S) → (S → Option V) → ℕ → S → List (List ℕ) → Result V ScriptFault
read_lines fault after whole number state [] = whole_or_missing number (whole state)
read_lines fault after whole number state (line ∷ lines) =
    unless_bad number (line_fault fault state line) (read_lines fault after whole (number + 1) (after_line after state number line) lines)

-- The first bad line of a text, and its fault.
pub record BadLine : Type 0 where
  pub line : ℕ
  pub fault : LineFault

-- That of a text which was read so.
abbrev pub bad_line_in : {V : Type 0} → Result V ScriptFault → Option BadLine
bad_line_in (Ok v) = None
bad_line_in (Err (fault.Line line f)) = Some (record { line = line; fault = f })
bad_line_in (Err (fault.TooManyEvents line)) = Some (record { line = line; fault = TooManyEvents })
bad_line_in (Err fault.OutOfMemory) = None

-- An answer about a text is what its lines say; allocation failure says nothing.
abbrev pub IsReading : {V : Type 0} → Result V ScriptFault → Result V ScriptFault → Type 0
IsReading said (Ok v) = said ≡ Ok v
IsReading said (Err (fault.Line number f)) = said ≡ Err (fault.Line number f)
IsReading said (Err (fault.TooManyEvents number)) = said ≡ Err (fault.TooManyEvents number)
IsReading said (Err fault.OutOfMemory) = Unit {0}
