-- How an input ends, and what is answered to it. This project's own.
use Rattle.std.specs.Prelude.{◌≡◌, ◌<◌, ◌≤◌, ℕ, List, length, Some, Result, Ok, Err}
use Rattle.frame_stream.specs.Frames.{Ending, GivenFrame, IsStream, stream_limit}
use Rattle.frame_stream.specs.Frames.Ending.{Bad, Done, TooLong}
use Rattle.frame_stream.specs.Text.{stream_of, text_of}
use Rattle.requester_drive.specs.Driven.{IsStreamOf}
use Rattle.responder_serve.specs.Served.{served_kinds}
use Rattle.script_text.specs.ConfigText.{config_in}
use Rattle.script_text.specs.Reading.{BadLine, bad_line_in}
use Rattle.script_text.specs.declared.configuration.config.ScriptConfig.{ScriptConfig}
use Rattle.stream_commands.specs.Texts.{text_limit}
use Rattle.stream_commands.specs.declared.fault.StreamFault.{StreamFault}
use Rattle.stream_commands.specs.declared.fault.StreamFault.TheVariants as fault

-- In its text, which is too long or has this first bad line, or in its stream.
pub data InputEnd : Type 0 where
  LongText : InputEnd
  BadText : (bad : BadLine) → InputEnd
  InStream : (ending : Ending) → InputEnd

-- An input ends so. `Streams` says of a configuration what a stream's frames are and how it ends.
abbrev pub HasEnd : (Streams : ScriptConfig → List ℕ → List GivenFrame → Ending → Type 0) → (input : List ℕ) → InputEnd → Type 0
HasEnd Streams input LongText = text_limit < length (text_of input)
HasEnd Streams input (BadText bad) =
    (length (text_of input) ≤ text_limit) × (bad_line_in (config_in (text_of input)) ≡ Some bad)
HasEnd Streams input (InStream ending) =
    (length (text_of input) ≤ text_limit)
    × ((c : ScriptConfig) × (config_in (text_of input) ≡ Ok c)
    × ((frames : List GivenFrame) × Streams c (stream_of input) frames ending))

-- A stream that is served: packets, and seconds that pass.
abbrev pub IsStreamToServe : ScriptConfig → List ℕ → List GivenFrame → Ending → Type 0
IsStreamToServe c stream frames ending = IsStream served_kinds stream_limit stream frames ending

-- A stream that drives a requester: packets, and lines that tell requester 1 a command.
abbrev pub IsStreamToDrive : ScriptConfig → List ℕ → List GivenFrame → Ending → Type 0
IsStreamToDrive c stream frames ending = IsStreamOf c stream frames ending

-- The answer to an input that ends so, where nothing fails and memory does not run out.
abbrev pub answer_for : InputEnd → Result (Unit {0}) StreamFault
answer_for LongText = Err fault.TooLong
answer_for (BadText bad) = Err (fault.BadScript bad.line bad.fault)
answer_for (InStream Done) = Ok tt
answer_for (InStream (Bad at)) = Err (fault.BadFrame at)
answer_for (InStream TooLong) = Err fault.TooLong
