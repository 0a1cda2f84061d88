-- The capture of a configuration and of a pcap file behind it. This project's own.
use Rattle.std.specs.Prelude.{◌≡◌, ◌<◌, ◌++◌, ℕ, List, [], length, Bool, true, false, Option, Some, Result, Ok, Err}
use Rattle.capture_text.specs.Written.{packet_lines}
use Rattle.frame_stream.specs.Text.{stream_of, text_of}
use Rattle.pcap_file.specs.Reading.{packets_in}
use Rattle.pcap_file.specs.declared.fault.PcapFault.{PcapFault}
use Rattle.script_text.specs.ScriptText.{capture_in}
use Rattle.script_text.specs.declared.texts.faults.LineFault.TheVariants.{TooManyEvents}
use Rattle.script_text.specs.declared.texts.faults.ScriptFault.{ScriptFault}
use Rattle.script_text.specs.declared.texts.faults.ScriptFault.TheVariants as fault
use Rattle.script_text.specs.declared.texts.script.Capture.{Capture}
use Rattle.spdm_basis.specs.Stream.{HasFault}
use Rattle.capture_pcap.specs.declared.out_of_file.FromPcapFault.{FromPcapFault}
use Rattle.capture_pcap.specs.declared.out_of_file.FromPcapFault.TheVariants as told

-- The text of a configuration, and the lines of packets behind it.
abbrev pub text_by : Result Capture ScriptFault → Result (List (List ℕ)) PcapFault → (text : List ℕ) → List ℕ
text_by (Ok capture) (Ok packets) text = text ++ packet_lines 1 packets
text_by (Ok capture) (Err fault) text = []
text_by (Err fault) file text = []

-- The capture of an input: its text, up to and with the first line `end`, and the packets of the file behind it. Nothing
-- where a line of the text is bad, or the file has a fault.
unfoldable pub capture_of : List ℕ → List ℕ
capture_of input = text_by (capture_in (text_of input)) (packets_in (stream_of input)) (text_of input)

-- The fault of the text, as it is reported.
abbrev pub told_of : ScriptFault → FromPcapFault
told_of (fault.Line line f) = told.Line line f
told_of (fault.TooManyEvents line) = told.Line line TooManyEvents
told_of fault.OutOfMemory = told.OutOfMemory

-- The text has this fault.
abbrev pub IsBad : Result Capture ScriptFault → FromPcapFault → Type 0
IsBad (Ok capture) why = ⊥
IsBad (Err f) why = told_of f ≡ why

-- The text is a capture.
abbrev pub IsGood : Result Capture ScriptFault → Type 0
IsGood (Ok capture) = Unit {0}
IsGood (Err f) = ⊥

-- The most bytes of a text, and of a file: 4 MiB.
abbrev pub most_bytes : ℕ
most_bytes = 4194304

-- Why the capture of an input was not written. Of reading, writing and memory the input tells nothing.
abbrev pub IsCause : (input : List ℕ) → FromPcapFault → Type 0
IsCause input (told.Line line f) = IsBad (capture_in (text_of input)) (told.Line line f)
IsCause input (told.File f) = IsGood (capture_in (text_of input)) × (packets_in (stream_of input) ≡ Err f)
IsCause input told.LongText = most_bytes < length (text_of input)
IsCause input told.LongFile = IsGood (capture_in (text_of input)) × (most_bytes < length (stream_of input))
IsCause input told.ReadFault = Unit {0}
IsCause input told.WriteFault = Unit {0}
IsCause input told.OutOfMemory = Unit {0}

-- Nothing was written.
abbrev pub writes_nothing : FromPcapFault → Bool
writes_nothing (told.Line line f) = true
writes_nothing (told.File f) = true
writes_nothing told.LongText = true
writes_nothing told.LongFile = true
writes_nothing told.ReadFault = true
writes_nothing told.WriteFault = false
writes_nothing told.OutOfMemory = false

-- ---- What is read.

-- An input was read: its text is good, and these are the packets of its file.
pub record AreParts (input front : List ℕ) (found : List (List ℕ)) : Type 0 where
  pub text : front ≡ text_of input
  pub good : IsGood (capture_in (text_of input))
  pub packets : packets_in (stream_of input) ≡ Ok found

-- Why it was not read.
abbrev pub IsReadCause : (left : Option (List ℕ)) → (failed fails : ℕ) → FromPcapFault → Type 0
IsReadCause left failed fails (told.Line line f) = (input : List ℕ) → left ≡ Some input → IsCause input (told.Line line f)
IsReadCause left failed fails (told.File f) = (input : List ℕ) → left ≡ Some input → IsCause input (told.File f)
IsReadCause left failed fails told.LongText = (input : List ℕ) → left ≡ Some input → IsCause input told.LongText
IsReadCause left failed fails told.LongFile = (input : List ℕ) → left ≡ Some input → IsCause input told.LongFile
IsReadCause left failed fails told.ReadFault = HasFault failed fails
IsReadCause left failed fails told.WriteFault = ⊥
IsReadCause left failed fails told.OutOfMemory = Unit {0}

-- Why a file was not read of which these bytes were read before, and the others are left.
abbrev pub IsFileCause : (before : List ℕ) → (left : Option (List ℕ)) → (failed fails : ℕ) → FromPcapFault → Type 0
IsFileCause before left failed fails told.LongFile = (rest : List ℕ) → left ≡ Some rest → most_bytes < length (before ++ rest)
IsFileCause before left failed fails told.ReadFault = HasFault failed fails
IsFileCause before left failed fails told.OutOfMemory = Unit {0}
IsFileCause before left failed fails _ = ⊥

-- Why not all was written.
abbrev pub IsWriteCause : (failed fails : ℕ) → FromPcapFault → Type 0
IsWriteCause failed fails told.WriteFault = HasFault failed fails
IsWriteCause failed fails told.OutOfMemory = Unit {0}
IsWriteCause failed fails _ = ⊥
