-- The capture of a script as a text, and why there is none. This project's own.
use Rattle.std.specs.Prelude.{◌≡◌, ◌<◌, ◌≤◌, ◌++◌, ℕ, List, [], length, Bool, true, false, Some, None, Result, Ok, Err}
use Rattle.capture_text.specs.Written.{packet_lines}
use Rattle.script_capture.specs.Carried.{carried_from, carried_in}
use Rattle.script_capture.specs.declared.fault.CaptureFault.{CaptureFault}
use Rattle.script_capture.specs.declared.fault.CaptureFault.TheVariants as told
use Rattle.script_laws.specs.Scripts.{entries_in, full_from, full_line, set_up}
use Rattle.script_text.specs.Printing.{config_text}
use Rattle.script_text.specs.ScriptText.{script_in}
use Rattle.script_text.specs.declared.events.event.Entry.{Entry}
use Rattle.script_text.specs.declared.texts.faults.LineFault.TheVariants.{TooManyEvents}
use Rattle.script_text.specs.declared.texts.faults.ScriptFault.{ScriptFault}
use Rattle.script_text.specs.declared.texts.faults.ScriptFault.TheVariants as fault
use Rattle.script_text.specs.declared.texts.script.Script.{Script}
use Rattle.world_machine.specs.World.{World, new_world}

-- The configuration, as it is printed, and a line for each packet.
abbrev pub capture_of : Script → List ℕ
capture_of script = config_text script.config ++ packet_lines 1 (carried_in script)

abbrev pub capture_by : Result Script ScriptFault → List ℕ
capture_by (Ok script) = capture_of script
capture_by (Err f) = []

-- The capture of the script that a text is; nothing where a line is bad.
unfoldable pub capture_text : List ℕ → List ℕ
capture_text text = capture_by (script_in text)

-- The most packets of a capture.
abbrev pub most_packets : ℕ
most_packets = 100000

-- The fault of a text, as it is reported.
abbrev pub told_of : ScriptFault → CaptureFault
told_of (fault.Line line f) = told.Line line f
told_of (fault.TooManyEvents line) = told.Line line TooManyEvents
told_of fault.OutOfMemory = told.OutOfMemory

-- Events have no capture for this reason. Of memory they tell nothing.
abbrev pub HaveNone : World → List Entry → CaptureFault → Type 0
HaveNone world events (told.Line line f) = ⊥
HaveNone world events (told.LinkFull line) = full_from world (entries_in events) ≡ Some line
HaveNone world events (told.TooManyPackets line) = most_packets < length (carried_from world (entries_in events))
HaveNone world events told.WriteFault = ⊥
HaveNone world events told.OutOfMemory = Unit {0}

-- The same of a script.
abbrev pub HasNone : Script → CaptureFault → Type 0
HasNone script why = HaveNone (new_world (set_up script)) script.events why

-- A script has a capture.
abbrev pub HasCapture : Script → Type 0
HasCapture script = (full_line script ≡ None) × (length (carried_in script) ≤ most_packets)

-- A text is a script with a capture.
abbrev pub IsGood : Result Script ScriptFault → Type 0
IsGood (Ok script) = HasCapture script
IsGood (Err f) = ⊥

-- Why the capture of a text was not written. Of writing and memory the text tells nothing, but that nothing is written
-- where it has no capture.
abbrev pub IsCause : Result Script ScriptFault → CaptureFault → Type 0
IsCause said told.OutOfMemory = Unit {0}
IsCause said told.WriteFault = IsGood said
IsCause (Ok script) (told.LinkFull line) = HasNone script (told.LinkFull line)
IsCause (Ok script) (told.TooManyPackets line) = HasNone script (told.TooManyPackets line)
IsCause (Ok script) (told.Line line f) = ⊥
IsCause (Err f) (told.Line line g) = told_of f ≡ told.Line line g
IsCause (Err f) (told.LinkFull line) = ⊥
IsCause (Err f) (told.TooManyPackets line) = ⊥

-- Nothing was written.
abbrev pub writes_nothing : CaptureFault → Bool
writes_nothing (told.Line line f) = true
writes_nothing (told.LinkFull line) = true
writes_nothing (told.TooManyPackets line) = true
writes_nothing told.WriteFault = false
writes_nothing told.OutOfMemory = false
