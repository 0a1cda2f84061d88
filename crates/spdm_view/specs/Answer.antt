-- What is written of an input, and why it is not. This project's own.
use Rattle.std.specs.Prelude.{◌≡◌, ◌<◌, ◌⊎◌, ℕ, List, length, Bool, true, false, is_ok, Option, Result, Ok, Err}
use Rattle.capture_difference.specs.Written as judged
use Rattle.capture_pcap.specs.Captures as captures
use Rattle.capture_pcap.specs.Files as files
use Rattle.capture_pcap.specs.declared.into_file.ToPcapFault.{ToPcapFault}
use Rattle.capture_pcap.specs.declared.into_file.ToPcapFault.TheVariants as to_pcap
use Rattle.capture_pcap.specs.declared.out_of_file.FromPcapFault.{FromPcapFault}
use Rattle.capture_pcap.specs.declared.out_of_file.FromPcapFault.TheVariants as from_pcap
use Rattle.frame_stream.specs.Text.{text_of}
use Rattle.packet_text.specs.Told as packets
use Rattle.packet_text.specs.declared.writing.PacketsFault.{PacketsFault}
use Rattle.packet_text.specs.declared.writing.PacketsFault.TheVariants as to_words
use Rattle.script_capture.specs.Written as scripts
use Rattle.script_capture.specs.declared.fault.CaptureFault.{CaptureFault}
use Rattle.script_capture.specs.declared.fault.CaptureFault.TheVariants as to_capture
use Rattle.script_picture.specs.Drawn as pictures
use Rattle.script_picture.specs.declared.fault.DrawFault.{DrawFault}
use Rattle.script_picture.specs.declared.fault.DrawFault.TheVariants as to_picture
use Rattle.script_text.specs.ScriptText.{capture_in, script_in}
use Rattle.script_text.specs.declared.texts.faults.LineFault.{LineFault}
use Rattle.spdm_basis.specs.Stream.{Takes, TakesPrefix}
use Rattle.spdm_view.specs.declared.outcome.Outcome.{Outcome}
use Rattle.spdm_view.specs.declared.outcome.Outcome.TheVariants.{Done, Usage, BadText, LinkFull, TooMany, BadFile, ReadFault, WriteFault, OutOfMemory, TooLong}
use Rattle.spdm_view.specs.declared.words.Word.{Word}
use Rattle.spdm_view.specs.declared.words.TextWord.{TextWord}
use Rattle.spdm_view.specs.declared.words.TextWord.TheVariants.{Capture, Packets, Pcap, Picture}
use Rattle.spdm_view.specs.declared.words.Word.TheVariants.{FromPcap, OfText}

-- The longest text: 4 MiB.
abbrev pub text_limit : ℕ
text_limit = 4194304

-- What a word writes of a text, all of it.
abbrev pub IsOutputOfText : TextWord → List ℕ → (old new : Option (List ℕ)) → Type 0
IsOutputOfText (Packets style) text old new = judged.IsWritten style text old new
IsOutputOfText Pcap text old new = Takes old (files.pcap_of text) new
IsOutputOfText Capture text old new = Takes old (scripts.capture_text text) new
IsOutputOfText (Picture form) text old new = Takes old (pictures.drawn_text form text) new

-- Of an input.
abbrev pub IsOutput : Word → List ℕ → (old new : Option (List ℕ)) → Type 0
IsOutput (OfText word) input old new = IsOutputOfText word input old new
IsOutput FromPcap input old new = Takes old (captures.capture_of input) new

-- A beginning of it, or nothing.
abbrev pub IsBegunOfText : TextWord → List ℕ → (old new : Option (List ℕ)) → Type 0
IsBegunOfText (Packets style) text old new = judged.IsBegun style text old new
IsBegunOfText Pcap text old new = TakesPrefix old (files.pcap_of text) new
IsBegunOfText Capture text old new = TakesPrefix old (scripts.capture_text text) new
IsBegunOfText (Picture form) text old new = TakesPrefix old (pictures.drawn_text form text) new

abbrev pub IsBegun : Word → List ℕ → (old new : Option (List ℕ)) → Type 0
IsBegun (OfText word) input old new = (new ≡ old) ⊎ IsBegunOfText word input old new
IsBegun FromPcap input old new = TakesPrefix old (captures.capture_of input) new

-- ---- Outcomes.

abbrev pub pcap_outcome : Result (Unit {0}) ToPcapFault → Outcome
pcap_outcome (Ok done) = Done
pcap_outcome (Err (to_pcap.Line line f)) = BadText line f
pcap_outcome (Err to_pcap.WriteFault) = WriteFault
pcap_outcome (Err to_pcap.OutOfMemory) = OutOfMemory

abbrev pub capture_outcome : Result (Unit {0}) CaptureFault → Outcome
capture_outcome (Ok done) = Done
capture_outcome (Err (to_capture.Line line f)) = BadText line f
capture_outcome (Err (to_capture.LinkFull line)) = LinkFull line
capture_outcome (Err (to_capture.TooManyPackets line)) = TooMany line
capture_outcome (Err to_capture.WriteFault) = WriteFault
capture_outcome (Err to_capture.OutOfMemory) = OutOfMemory

abbrev pub picture_outcome : Result (Unit {0}) DrawFault → Outcome
picture_outcome (Ok done) = Done
picture_outcome (Err (to_picture.Line line f)) = BadText line f
picture_outcome (Err (to_picture.LinkFull line)) = LinkFull line
picture_outcome (Err (to_picture.TooManyRows line)) = TooMany line
picture_outcome (Err to_picture.WriteFault) = WriteFault
picture_outcome (Err to_picture.OutOfMemory) = OutOfMemory

abbrev pub packets_outcome : Result (Unit {0}) PacketsFault → Outcome
packets_outcome (Ok done) = Done
packets_outcome (Err (to_words.Line line f)) = BadText line f
packets_outcome (Err to_words.WriteFault) = WriteFault
packets_outcome (Err to_words.OutOfMemory) = OutOfMemory

abbrev pub from_pcap_outcome : Result (Unit {0}) FromPcapFault → Outcome
from_pcap_outcome (Ok done) = Done
from_pcap_outcome (Err (from_pcap.Line line f)) = BadText line f
from_pcap_outcome (Err (from_pcap.File f)) = BadFile f
from_pcap_outcome (Err from_pcap.LongText) = TooLong
from_pcap_outcome (Err from_pcap.LongFile) = TooLong
from_pcap_outcome (Err from_pcap.ReadFault) = ReadFault
from_pcap_outcome (Err from_pcap.WriteFault) = WriteFault
from_pcap_outcome (Err from_pcap.OutOfMemory) = OutOfMemory

-- Nothing was written.
abbrev pub writes_nothing : Outcome → Bool
writes_nothing Done = false
writes_nothing Usage = true
writes_nothing (BadText line f) = true
writes_nothing (LinkFull line) = true
writes_nothing (TooMany line) = true
writes_nothing (BadFile f) = true
writes_nothing ReadFault = true
writes_nothing WriteFault = false
writes_nothing OutOfMemory = false
writes_nothing TooLong = true

-- ---- What an outcome tells of the input. Of reading, writing and memory the input tells nothing.

-- A text is what the word reads.
abbrev pub IsGood : TextWord → List ℕ → Type 0
IsGood (Packets style) text = is_ok (capture_in text) ≡ true
IsGood Pcap text = is_ok (capture_in text) ≡ true
IsGood Capture text = scripts.IsGood (script_in text)
IsGood (Picture form) text = pictures.IsGood (capture_in text) (script_in text)

-- It has this first bad line, with this first fault.
abbrev pub IsBadLine : TextWord → List ℕ → (line : ℕ) → LineFault → Type 0
IsBadLine (Packets style) text line f = packets.IsBad (capture_in text) (to_words.Line line f)
IsBadLine Pcap text line f = files.IsBad (capture_in text) (to_pcap.Line line f)
IsBadLine Capture text line f = scripts.IsCause (script_in text) (to_capture.Line line f)
IsBadLine (Picture form) text line f = pictures.IsCause (capture_in text) (script_in text) (to_picture.Line line f)

-- With the event on this line of the script that it is the link is full, or there is more than the word writes.
abbrev pub IsFullAt : TextWord → List ℕ → (line : ℕ) → Type 0
IsFullAt Capture text line = scripts.IsCause (script_in text) (to_capture.LinkFull line)
IsFullAt (Picture form) text line = pictures.IsCause (capture_in text) (script_in text) (to_picture.LinkFull line)
IsFullAt word text line = ⊥

abbrev pub IsTooMuchAt : TextWord → List ℕ → (line : ℕ) → Type 0
IsTooMuchAt Capture text line = scripts.IsCause (script_in text) (to_capture.TooManyPackets line)
IsTooMuchAt (Picture form) text line = pictures.IsCause (capture_in text) (script_in text) (to_picture.TooManyRows line)
IsTooMuchAt word text line = ⊥

abbrev pub IsToldOfText : TextWord → List ℕ → Outcome → Type 0
IsToldOfText word text Done = IsGood word text
IsToldOfText word text (BadText line f) = IsBadLine word text line f
IsToldOfText word text (LinkFull line) = IsFullAt word text line
IsToldOfText word text (TooMany line) = IsTooMuchAt word text line
IsToldOfText word text TooLong = text_limit < length text
IsToldOfText word text ReadFault = Unit {0}
IsToldOfText word text WriteFault = IsGood word text
IsToldOfText word text OutOfMemory = Unit {0}
IsToldOfText word text Usage = ⊥
IsToldOfText word text (BadFile f) = ⊥

abbrev pub IsToldOfFile : List ℕ → Outcome → Type 0
IsToldOfFile input Done = (packets : List (List ℕ)) × captures.AreParts input (text_of input) packets
IsToldOfFile input (BadText line f) = captures.IsCause input (from_pcap.Line line f)
IsToldOfFile input (BadFile f) = captures.IsCause input (from_pcap.File f)
IsToldOfFile input TooLong = captures.IsCause input from_pcap.LongText ⊎ captures.IsCause input from_pcap.LongFile
IsToldOfFile input ReadFault = Unit {0}
IsToldOfFile input WriteFault = Unit {0}
IsToldOfFile input OutOfMemory = Unit {0}
IsToldOfFile input Usage = ⊥
IsToldOfFile input (LinkFull line) = ⊥
IsToldOfFile input (TooMany line) = ⊥

abbrev pub IsTold : Word → List ℕ → Outcome → Type 0
IsTold (OfText word) input outcome = IsToldOfText word input outcome
IsTold FromPcap input outcome = IsToldOfFile input outcome
