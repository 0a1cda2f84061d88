-- How an input ends, and what is answered to it. This project's own.
use Rattle.std.specs.Prelude.{◌≡◌, ◌<◌, ◌≤◌, ℕ, List, length, Option, Some, Result, Ok, Err, is_ok, true}
use Rattle.appraise.specs.declared.appraisal.Appraisal.{Appraisal}
use Rattle.attest_command.specs.Text.{Setting, setting_before, stream_behind, whole_text}
use Rattle.frame_stream.specs.Frames.{GivenFrame, IsStream, stream_limit}
use Rattle.frame_stream.specs.Frames.Ending.{Bad, Done, TooLong}
use Rattle.requester_attest.specs.Attested.{attested_kinds}
use Rattle.script_text.specs.Reading.{bad_line_in}
use Rattle.stream_commands.specs.Texts.{text_limit}
use Rattle.stream_commands.specs.InputEnds.{InputEnd}
use Rattle.stream_commands.specs.InputEnds.InputEnd.{BadText, InStream, LongText}
use Rattle.stream_commands.specs.declared.fault.StreamFault.{StreamFault}
use Rattle.stream_commands.specs.declared.fault.StreamFault.TheVariants as fault

-- An input ends so: in its text, which is too long or has this first bad line, or in its stream of packets and seconds that
-- pass.
abbrev pub HasEnd : (input : List ℕ) → InputEnd → Type 0
HasEnd input LongText = text_limit < length (whole_text input)
HasEnd input (BadText bad) = (length (whole_text input) ≤ text_limit) × (bad_line_in (setting_before input) ≡ Some bad)
HasEnd input (InStream ending) =
    (length (whole_text input) ≤ text_limit)
    × ((setting : Setting) × (setting_before input ≡ Ok setting)
    × ((frames : List GivenFrame) × IsStream attested_kinds stream_limit (stream_behind input) frames ending))

-- The answer to an input that ends so, where nothing fails and memory does not run out: to a stream that ends between two
-- frames, a verdict or that there is none.
abbrev pub Answers : InputEnd → Result (Option Appraisal) StreamFault → Type 0
Answers LongText answer = answer ≡ Err fault.TooLong
Answers (BadText bad) answer = answer ≡ Err (fault.BadScript bad.line bad.fault)
Answers (InStream Done) answer = is_ok answer ≡ true
Answers (InStream (Bad at)) answer = answer ≡ Err (fault.BadFrame at)
Answers (InStream TooLong) answer = answer ≡ Err fault.TooLong
