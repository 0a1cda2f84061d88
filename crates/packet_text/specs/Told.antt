-- What is written of a capture. This project's own.
use Rattle.std.specs.Prelude.{◌≡◌, ℕ, List, [], Result, Ok, Err}
use Rattle.script_text.specs.ScriptText.{capture_in}
use Rattle.script_text.specs.declared.texts.faults.LineFault.TheVariants.{TooManyEvents}
use Rattle.script_text.specs.declared.texts.faults.ScriptFault.{ScriptFault}
use Rattle.script_text.specs.declared.texts.faults.ScriptFault.TheVariants as fault
use Rattle.script_text.specs.declared.texts.script.Capture.{Capture}
use Rattle.packet_text.specs.Styles.{written_from}
use Rattle.packet_text.specs.declared.style.Style.{Style}
use Rattle.packet_text.specs.declared.writing.PacketsFault.{PacketsFault}
use Rattle.packet_text.specs.declared.writing.PacketsFault.TheVariants as told

-- What is written of the packets of a capture, and nothing where a line of the text is bad.
abbrev pub written_in : Style → Result Capture ScriptFault → List ℕ
written_in style (Ok capture) = written_from style capture.config [] capture.packets
written_in style (Err fault) = []

unfoldable pub packets_text : Style → List ℕ → List ℕ
packets_text style text = written_in style (capture_in text)

-- The fault of a text, as it is reported.
abbrev pub told_of : ScriptFault → PacketsFault
told_of (fault.Line line f) = told.Line line f
told_of (fault.TooManyEvents line) = told.Line line TooManyEvents
told_of fault.OutOfMemory = told.OutOfMemory

-- The text has this fault.
abbrev pub IsBad : Result Capture ScriptFault → PacketsFault → Type 0
IsBad (Ok capture) why = ⊥
IsBad (Err f) why = told_of f ≡ why
