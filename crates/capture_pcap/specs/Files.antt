-- The pcap file of a capture. This project's own.
use Rattle.std.specs.Prelude.{◌≡◌, ℕ, List, [], Result, Ok, Err}
use Rattle.pcap_file.specs.Writing.{file_of}
use Rattle.script_text.specs.ScriptText.{capture_in}
use Rattle.script_text.specs.declared.texts.faults.LineFault.TheVariants.{TooManyEvents}
use Rattle.script_text.specs.declared.texts.faults.ScriptFault.{ScriptFault}
use Rattle.script_text.specs.declared.texts.faults.ScriptFault.TheVariants as fault
use Rattle.script_text.specs.declared.texts.script.Capture.{Capture}
use Rattle.capture_pcap.specs.declared.into_file.ToPcapFault.{ToPcapFault}
use Rattle.capture_pcap.specs.declared.into_file.ToPcapFault.TheVariants as told

-- The file of the packets of a capture, and none where a line of the text is bad.
abbrev pub file_by : Result Capture ScriptFault → List ℕ
file_by (Ok capture) = file_of capture.packets
file_by (Err fault) = []

unfoldable pub pcap_of : List ℕ → List ℕ
pcap_of text = file_by (capture_in text)

-- The fault of a text, as it is reported.
abbrev pub told_of : ScriptFault → ToPcapFault
told_of (fault.Line line f) = told.Line line f
told_of (fault.TooManyEvents line) = told.Line line TooManyEvents
told_of fault.OutOfMemory = told.OutOfMemory

-- The text has this fault.
abbrev pub IsBad : Result Capture ScriptFault → ToPcapFault → Type 0
IsBad (Ok capture) why = ⊥
IsBad (Err f) why = told_of f ≡ why
