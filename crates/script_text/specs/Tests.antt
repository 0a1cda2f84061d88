-- Tests in order, of which the first that holds decides.
use Rattle.std.specs.Prelude.{List, [], ◌∷◌, if◌then◌else◌, Bool, Option, Some, None, Result, Ok, Err, ◌≡◌}
use Rattle.script_text.specs.declared.texts.faults.LineFault.{LineFault}
use Rattle.script_text.specs.declared.texts.faults.LineError.{LineError}
use Rattle.script_text.specs.declared.texts.faults.LineError.TheVariants.{Fault, NoMemory}

-- The fault of the first test that holds.
abbrev pub first_of_tests : List (Bool × LineFault) → Option LineFault
first_of_tests [] = None
first_of_tests (t ∷ ts) = if t.0 then Some t.1 else first_of_tests ts

-- The outcome of a line with this first fault, or without one: it is taken exactly when it has none. Allocation failure
-- says nothing.
abbrev pub IsAnswerTo : {T : Type 0} → Option LineFault → Result T LineError → Type 0
IsAnswerTo fault (Ok _) = fault ≡ None
IsAnswerTo fault (Err (Fault f)) = fault ≡ Some f
IsAnswerTo fault (Err NoMemory) = Unit {0}

-- The same of an answer that wants no memory.
abbrev pub IsTestedBy : {T : Type 0} → Option LineFault → Result T LineFault → Type 0
IsTestedBy fault (Ok _) = fault ≡ None
IsTestedBy fault (Err f) = fault ≡ Some f
