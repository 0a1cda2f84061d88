-- The picture of a text that is a capture or a script. This project's own.
use Rattle.std.specs.Prelude.{◌≡◌, ◌≤◌, ◌<◌, nat_lt, ℕ, List, [], length, if◌then◌else◌, Bool, true, false, None, Some, Result, Ok, Err}
use Rattle.capture_picture.specs.Arrows.{packets_picture, requesters_of}
use Rattle.script_laws.specs.Scripts.{entries_in, full_from, full_line, set_up}
use Rattle.script_picture.specs.Rows.{rows_from, rows_in}
use Rattle.script_picture.specs.declared.fault.DrawFault.{DrawFault}
use Rattle.script_picture.specs.declared.fault.DrawFault.TheVariants as told
use Rattle.script_text.specs.ScriptText.{capture_in, script_in}
use Rattle.script_text.specs.declared.events.event.Entry.{Entry}
use Rattle.script_text.specs.declared.configuration.config.ScriptConfig.{ScriptConfig}
use Rattle.script_text.specs.declared.texts.faults.LineFault.TheVariants.{TooManyEvents}
use Rattle.script_text.specs.declared.texts.faults.ScriptFault.{ScriptFault}
use Rattle.script_text.specs.declared.texts.faults.ScriptFault.TheVariants as fault
use Rattle.script_text.specs.declared.texts.script.Capture.{Capture}
use Rattle.script_text.specs.declared.texts.script.Script.{Script}
use Rattle.sequence_picture.specs.Picture.{picture_text}
use Rattle.sequence_picture.specs.declared.form.Form.{Form}
use Rattle.world_machine.specs.World.{World, new_world}

abbrev pub script_picture : Form → Script → List ℕ
script_picture form script = picture_text form (requesters_of script.config) (rows_in script)

-- A text is read as a capture, and where it is none as a script.
abbrev pub drawn_by : Form → Result Capture ScriptFault → Result Script ScriptFault → List ℕ
drawn_by form (Ok capture) script = packets_picture form capture.config capture.packets
drawn_by form (Err f) (Ok script) = script_picture form script
drawn_by form (Err f) (Err g) = []

unfoldable pub drawn_text : Form → List ℕ → List ℕ
drawn_text form text = drawn_by form (capture_in text) (script_in text)

-- ---- Why there is no picture.

-- The most rows of a picture.
abbrev pub most_rows : ℕ
most_rows = 1000000

-- The line of a fault.
abbrev pub line_of : ScriptFault → ℕ
line_of (fault.Line line f) = line
line_of (fault.TooManyEvents line) = line
line_of fault.OutOfMemory = 0

-- Of a text that is neither, the fault is told of the reading that went further; where both end at one line, that of
-- the script.
abbrev pub further : (capture script : ScriptFault) → ScriptFault
further f g = if nat_lt (line_of g) (line_of f) then f else g

-- The fault of a text, as it is reported.
abbrev pub told_of : ScriptFault → DrawFault
told_of (fault.Line line f) = told.Line line f
told_of (fault.TooManyEvents line) = told.Line line TooManyEvents
told_of fault.OutOfMemory = told.OutOfMemory

-- Events have no picture for this reason. Of memory they tell nothing.
abbrev pub HaveNone : ScriptConfig → List Entry → World → List Entry → DrawFault → Type 0
HaveNone config all w events (told.Line line f) = ⊥
HaveNone config all w events (told.LinkFull line) = full_from w (entries_in events) ≡ Some line
HaveNone config all w events (told.TooManyRows line) = most_rows < length (rows_from config all w events)
HaveNone config all w events told.WriteFault = ⊥
HaveNone config all w events told.OutOfMemory = Unit {0}

abbrev pub HasNone : Script → DrawFault → Type 0
HasNone script why = HaveNone script.config script.events (new_world (set_up script)) script.events why

-- A script has a picture.
abbrev pub HasPicture : Script → Type 0
HasPicture script = (full_line script ≡ None) × (length (rows_in script) ≤ most_rows)

-- A text has a picture.
abbrev pub IsGood : Result Capture ScriptFault → Result Script ScriptFault → Type 0
IsGood (Ok capture) script = Unit {0}
IsGood (Err f) (Ok script) = HasPicture script
IsGood (Err f) (Err g) = ⊥

-- Why a script was not drawn; and why rows were not.
abbrev pub IsScriptCause : Script → DrawFault → Type 0
IsScriptCause script (told.Line line f) = ⊥
IsScriptCause script (told.LinkFull line) = HasNone script (told.LinkFull line)
IsScriptCause script (told.TooManyRows line) = HasNone script (told.TooManyRows line)
IsScriptCause script told.WriteFault = HasPicture script
IsScriptCause script told.OutOfMemory = Unit {0}

abbrev pub IsWriteCause : DrawFault → Type 0
IsWriteCause told.WriteFault = Unit {0}
IsWriteCause told.OutOfMemory = Unit {0}
IsWriteCause why = ⊥

-- Why the picture of a text was not written. Of writing and memory the text tells nothing, but that nothing is written
-- where it has no picture.
abbrev pub IsCause : Result Capture ScriptFault → Result Script ScriptFault → DrawFault → Type 0
IsCause capture script told.OutOfMemory = Unit {0}
IsCause capture script told.WriteFault = IsGood capture script
IsCause (Ok capture) script why = ⊥
IsCause (Err f) (Ok script) (told.Line line g) = ⊥
IsCause (Err f) (Ok script) (told.LinkFull line) = HasNone script (told.LinkFull line)
IsCause (Err f) (Ok script) (told.TooManyRows line) = HasNone script (told.TooManyRows line)
IsCause (Err f) (Err g) why = told_of (further f g) ≡ why

-- Nothing was written.
abbrev pub writes_nothing : DrawFault → Bool
writes_nothing (told.Line line f) = true
writes_nothing (told.LinkFull line) = true
writes_nothing (told.TooManyRows line) = true
writes_nothing told.WriteFault = false
writes_nothing told.OutOfMemory = false
