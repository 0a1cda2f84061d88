-- The way back from a file. This project's own.
use Rattle.std.specs.Prelude.{◌≡◌, ℕ, List, [], ◌∷◌, ◌++◌, Ok}
use Rattle.frame_stream.specs.Text.{stream_of, text_of}
use Rattle.script_text.specs.ScriptText.{capture_in}
use Rattle.script_text.specs.declared.texts.script.Capture.{Capture}
use Rattle.capture_pcap.specs.Captures.{capture_of}
use Rattle.capture_pcap.specs.Files.{pcap_of}

-- A capture is read back: where the file that is written of it stands behind a text of its configuration alone, which
-- ends with the line feed of its line `end`, what is written of this input is read as the capture.
abbrev pub FileIsReadBack : Type 0
FileIsReadBack = (text input front : List ℕ) (capture : Capture) →
    capture_in text ≡ Ok capture →
    text_of input ≡ front ++ 10 ∷ [] →
    capture_in (text_of input) ≡ Ok (record { config = capture.config; packets = [] }) →
    stream_of input ≡ pcap_of text →
    capture_in (capture_of input) ≡ Ok capture
