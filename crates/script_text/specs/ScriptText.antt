-- The texts of scripts, captures and lives: a configuration, and after its `end` events or packets. This project's own.
use Rattle.std.specs.Prelude.{ℕ, List, [], ◌∷◌, ◌++◌, ◌+◌, ◌-◌, ◌^◌, ◌==◌, ◌&&◌, nat_le, not, codes, bytes_eq, length, if◌then◌else◌, Bool, true, false, Option, Some, None, Result}
use Rattle.std.specs.Option.{option_map}
use Rattle.script_text.specs.Configuring.{config_kind, config_fault, after_config, config_of, nothing_given}
use Rattle.script_text.specs.EventLines.{event_kind, event_fault, event_of}
use Rattle.script_text.specs.HexWords.{is_hex_in, bytes_of, most_bytes}
use Rattle.script_text.specs.Lines.{lines_of, word, has_words}
use Rattle.script_text.specs.Numbers.{is_number_in, value_of}
use Rattle.script_text.specs.Reading.{read_lines}
use Rattle.script_text.specs.Tests.{first_of_tests}
use Rattle.script_text.specs.declared.texts.capture_text.CaptureReader.{CaptureReader}
use Rattle.script_text.specs.declared.configuration.config.ScriptConfig.{ScriptConfig}
use Rattle.script_text.specs.declared.configuration.config_kind.ConfigKind.{ConfigKind}
use Rattle.script_text.specs.declared.events.event.Entry.{Entry}
use Rattle.script_text.specs.declared.events.event_kind.EventKind.{EventKind}
use Rattle.script_text.specs.declared.texts.faults.LineFault.{LineFault}
use Rattle.script_text.specs.declared.texts.faults.LineFault.TheVariants.{Unknown, Order, Words, Number, Hex, TooManyEvents}
use Rattle.script_text.specs.declared.texts.faults.ScriptFault.{ScriptFault}
use Rattle.script_text.specs.declared.texts.lives_text.LivesReader.{LivesReader}
use Rattle.script_text.specs.declared.texts.script.Capture.{Capture}
use Rattle.script_text.specs.declared.texts.script.Life.{Life}
use Rattle.script_text.specs.declared.texts.script.Lives.{Lives}
use Rattle.script_text.specs.declared.texts.script.Script.{Script}
use Rattle.script_text.specs.declared.texts.script_lines.ScriptReader.{ScriptReader}

-- The most events, cycles or packets of a text.
abbrev pub is_full : ℕ → Bool
is_full count = nat_le 100000 count

-- A fault of its own comes first, and then that of an event too many.
abbrev pub or_too_many : ℕ → Option LineFault → Option LineFault
or_too_many count (Some f) = Some f
or_too_many count None = if is_full count then Some TooManyEvents else None

-- ---- Scripts.

-- An event follows `end`.
abbrev pub script_event_fault : ScriptReader → Option EventKind → List ℕ → Option LineFault
script_event_fault reader None line = Some Unknown
script_event_fault reader (Some kind) line =
    if not reader.given.ended then Some Order
    else or_too_many (length reader.events) (event_fault (length reader.given.requesters) kind line)

abbrev pub script_kind_fault : ScriptReader → Option ConfigKind → List ℕ → Option LineFault
script_kind_fault reader None line = script_event_fault reader (event_kind line) line
script_kind_fault reader (Some kind) line = config_fault true reader.given kind line

abbrev pub script_fault : ScriptReader → List ℕ → Option LineFault
script_fault reader line = script_kind_fault reader (config_kind (word 0 line)) line

abbrev pub after_script_event : ScriptReader → ℕ → Option EventKind → List ℕ → ScriptReader
after_script_event reader number None line = reader
after_script_event reader number (Some kind) line = record reader { events = reader.events ++ (record { line = number; event = event_of kind line }) ∷ [] }

abbrev pub after_script_kind : ScriptReader → ℕ → Option ConfigKind → List ℕ → ScriptReader
after_script_kind reader number None line = after_script_event reader number (event_kind line) line
after_script_kind reader number (Some kind) line = record reader { given = after_config reader.given kind line }

abbrev pub after_script : ScriptReader → ℕ → List ℕ → ScriptReader
after_script reader number line = after_script_kind reader number (config_kind (word 0 line)) line

abbrev pub script_with : List Entry → ScriptConfig → Script
script_with events config = record { config = config; events = events }

abbrev pub whole_script : ScriptReader → Option Script
whole_script reader = option_map (script_with reader.events) (config_of reader.given)

-- The script that a text is, or its first bad line.
unfoldable pub script_in : List ℕ → Result Script ScriptFault
script_in text = read_lines script_fault after_script whole_script 1 (record { given = nothing_given; events = [] }) (lines_of text)

-- ---- Captures: behind `end` stand lines `packet K H`, where K counts from 1. A configuration of a capture needs no seed.

-- The line is one of a packet.
abbrev pub is_packet : List ℕ → Bool
is_packet word = bytes_eq word (codes "packet")

-- A word is the number after a count; numbers of packets are below 2^32.
abbrev pub is_next : ℕ → List ℕ → Bool
is_next count word = is_number_in 1 (2 ^ 32 - 1) word && value_of word == count + 1

unfoldable pub packet_fault : CaptureReader → List ℕ → Option LineFault
packet_fault reader line = first_of_tests (
    (not (is_packet (word 0 line)), Unknown)
    ∷ (not reader.given.ended, Order)
    ∷ (not (has_words 3 line), Words)
    ∷ (not (is_next (length reader.packets) (word 1 line)), Number)
    ∷ (not (is_hex_in 0 most_bytes (word 2 line)), Hex)
    ∷ (is_full (length reader.packets), TooManyEvents)
    ∷ [])

abbrev pub capture_kind_fault : CaptureReader → Option ConfigKind → List ℕ → Option LineFault
capture_kind_fault reader None line = packet_fault reader line
capture_kind_fault reader (Some kind) line = config_fault false reader.given kind line

abbrev pub capture_fault : CaptureReader → List ℕ → Option LineFault
capture_fault reader line = capture_kind_fault reader (config_kind (word 0 line)) line

abbrev pub after_capture_kind : CaptureReader → Option ConfigKind → List ℕ → CaptureReader
after_capture_kind reader None line = record reader { packets = reader.packets ++ bytes_of (word 2 line) ∷ [] }
after_capture_kind reader (Some kind) line = record reader { given = after_config reader.given kind line }

abbrev pub after_capture : CaptureReader → ℕ → List ℕ → CaptureReader
after_capture reader number line = after_capture_kind reader (config_kind (word 0 line)) line

abbrev pub capture_with : List (List ℕ) → ScriptConfig → Capture
capture_with packets config = record { config = config; packets = packets }

abbrev pub whole_capture : CaptureReader → Option Capture
whole_capture reader = option_map (capture_with reader.packets) (config_of reader.given)

-- The capture that a text is, or its first bad line.
unfoldable pub capture_in : List ℕ → Result Capture ScriptFault
capture_in text = read_lines capture_fault after_capture whole_capture 1 (record { given = nothing_given; packets = [] }) (lines_of text)

-- ---- Lives: a script in which the line `cycle` is an event too, with which a new life begins.

abbrev pub is_cycle : List ℕ → Bool
is_cycle word = bytes_eq word (codes "cycle")

-- The life that is in progress.
abbrev pub present_life : LivesReader → Life
present_life reader = record { cycle_line = reader.cycle_line; events = reader.events }

unfoldable pub cycle_fault : LivesReader → List ℕ → Option LineFault
cycle_fault reader line = first_of_tests (
    (not reader.given.ended, Order)
    ∷ (not (has_words 1 line), Words)
    ∷ (is_full reader.count, TooManyEvents)
    ∷ [])

abbrev pub lives_event_fault : LivesReader → Option EventKind → List ℕ → Option LineFault
lives_event_fault reader None line = if is_cycle (word 0 line) then cycle_fault reader line else Some Unknown
lives_event_fault reader (Some kind) line =
    if not reader.given.ended then Some Order
    else or_too_many reader.count (event_fault (length reader.given.requesters) kind line)

abbrev pub lives_kind_fault : LivesReader → Option ConfigKind → List ℕ → Option LineFault
lives_kind_fault reader None line = lives_event_fault reader (event_kind line) line
lives_kind_fault reader (Some kind) line = config_fault true reader.given kind line

abbrev pub lives_fault : LivesReader → List ℕ → Option LineFault
lives_fault reader line = lives_kind_fault reader (config_kind (word 0 line)) line

abbrev pub after_lives_event : LivesReader → ℕ → Option EventKind → List ℕ → LivesReader
after_lives_event reader number None line = record reader {
  count = reader.count + 1;
  earlier = reader.earlier ++ present_life reader ∷ [];
  cycle_line = number;
  events = [];
}
after_lives_event reader number (Some kind) line = record reader {
  count = reader.count + 1;
  events = reader.events ++ (record { line = number; event = event_of kind line }) ∷ [];
}

abbrev pub after_lives_kind : LivesReader → ℕ → Option ConfigKind → List ℕ → LivesReader
after_lives_kind reader number None line = after_lives_event reader number (event_kind line) line
after_lives_kind reader number (Some kind) line = record reader { given = after_config reader.given kind line }

abbrev pub after_lives : LivesReader → ℕ → List ℕ → LivesReader
after_lives reader number line = after_lives_kind reader number (config_kind (word 0 line)) line

abbrev pub lives_with : List Life → ScriptConfig → Lives
lives_with lives config = record { config = config; lives = lives }

abbrev pub whole_lives : LivesReader → Option Lives
whole_lives reader = option_map (lives_with (reader.earlier ++ present_life reader ∷ [])) (config_of reader.given)

-- Before the first line.
abbrev pub no_lives : LivesReader
no_lives = record { given = nothing_given; count = 0; earlier = []; cycle_line = 0; events = [] }

-- The lives that a text is, or its first bad line.
unfoldable pub lives_in : List ℕ → Result Lives ScriptFault
lives_in text = read_lines lives_fault after_lives whole_lives 1 no_lives (lines_of text)
