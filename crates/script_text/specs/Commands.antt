-- The lines of commands: which faults each kind has, in order, and what it asks of a requester. This project's own.
use Rattle.std.specs.Prelude.{ℕ, List, [], ◌∷◌, ◌==◌, ◌&&◌, ◌||◌, nat_lt, not, codes, bytes_eq, if◌then◌else◌, Bool, Option, Some, None}
use Rattle.script_text.specs.HexWords.{is_hex_in, bytes_of, is_none_word, most_bytes}
use Rattle.script_text.specs.Lines.{word, has_words}
use Rattle.script_text.specs.Numbers.{is_number_in, value_of}
use Rattle.script_text.specs.Tests.{first_of_tests}
use Rattle.script_text.specs.declared.events.command.CommandKind.{CommandKind}
use Rattle.script_text.specs.declared.events.command.CommandKind.TheVariants as kind
use Rattle.script_text.specs.declared.events.event.LinkEvent.{LinkEvent}
use Rattle.script_text.specs.declared.events.event.LinkEvent.TheVariants as event
use Rattle.script_text.specs.declared.texts.faults.LineFault.{LineFault}
use Rattle.script_text.specs.declared.texts.faults.LineFault.TheVariants.{Words, Number, Hex, NoSuchEnd}

-- The kind of a command by the word after the requester.
unfoldable pub command_kind : List ℕ → Option CommandKind
command_kind word =
    if bytes_eq word (codes "connect") then Some kind.Connect
    else (if bytes_eq word (codes "retry") then Some kind.Retry
    else (if bytes_eq word (codes "open") then Some kind.Open
    else (if bytes_eq word (codes "send") then Some kind.Send
    else (if bytes_eq word (codes "beat") then Some kind.Beat
    else (if bytes_eq word (codes "end") then Some kind.End
    else (if bytes_eq word (codes "update") then Some kind.Update
    else (if bytes_eq word (codes "measure") then Some kind.Measure
    else None)))))))

-- A session is a number from 1 to 4.
abbrev pub is_session : List ℕ → Bool
is_session word = is_number_in 1 4 word

-- ---- `qN connect` and `qN retry`. `requesters` are configured.

unfoldable pub plain_fault : (requesters q : ℕ) → List ℕ → Option LineFault
plain_fault requesters q line = first_of_tests (
    (not (has_words 2 line), Words)
    ∷ (nat_lt requesters q, NoSuchEnd)
    ∷ [])

-- ---- `qN open K`: K is 0, 1 or 255.

abbrev pub is_summary : List ℕ → Bool
is_summary word = is_number_in 0 255 word && (value_of word == 0 || value_of word == 1 || value_of word == 255)

unfoldable pub open_fault : (requesters q : ℕ) → List ℕ → Option LineFault
open_fault requesters q line = first_of_tests (
    (not (has_words 3 line), Words)
    ∷ (not (is_summary (word 2 line)), Number)
    ∷ (nat_lt requesters q, NoSuchEnd)
    ∷ [])

-- ---- `qN send S H`.

unfoldable pub send_fault : (requesters q : ℕ) → List ℕ → Option LineFault
send_fault requesters q line = first_of_tests (
    (not (has_words 4 line), Words)
    ∷ (not (is_session (word 2 line)), Number)
    ∷ (not (is_hex_in 0 most_bytes (word 3 line)), Hex)
    ∷ (nat_lt requesters q, NoSuchEnd)
    ∷ [])

-- ---- `qN beat S` and `qN end S`.

unfoldable pub session_fault : (requesters q : ℕ) → List ℕ → Option LineFault
session_fault requesters q line = first_of_tests (
    (not (has_words 3 line), Words)
    ∷ (not (is_session (word 2 line)), Number)
    ∷ (nat_lt requesters q, NoSuchEnd)
    ∷ [])

-- ---- `qN update S key` and `qN update S all`.

abbrev pub says_all : List ℕ → Bool
says_all word = bytes_eq word (codes "all")

abbrev pub says_key : List ℕ → Bool
says_key word = bytes_eq word (codes "key")

unfoldable pub update_fault : (requesters q : ℕ) → List ℕ → Option LineFault
update_fault requesters q line = first_of_tests (
    (not (has_words 4 line), Words)
    ∷ (not (says_key (word 3 line) || says_all (word 3 line)), Words)
    ∷ (not (is_session (word 2 line)), Number)
    ∷ (nat_lt requesters q, NoSuchEnd)
    ∷ [])

-- ---- `qN measure - OP` in the clear, and `qN measure S OP` in a session; OP is 0 to 255.

-- The session of the line, if it has one.
abbrev pub place_of : List ℕ → Option ℕ
place_of word = if is_none_word word then None else Some (value_of word)

unfoldable pub measure_fault : (requesters q : ℕ) → List ℕ → Option LineFault
measure_fault requesters q line = first_of_tests (
    (not (has_words 4 line), Words)
    ∷ (not (is_none_word (word 2 line) || is_session (word 2 line)), Number)
    ∷ (not (is_number_in 0 255 (word 3 line)), Number)
    ∷ (nat_lt requesters q, NoSuchEnd)
    ∷ [])

-- ---- A command of any kind.

abbrev pub command_fault : (requesters q : ℕ) → CommandKind → List ℕ → Option LineFault
command_fault requesters q kind.Connect line = plain_fault requesters q line
command_fault requesters q kind.Retry line = plain_fault requesters q line
command_fault requesters q kind.Open line = open_fault requesters q line
command_fault requesters q kind.Send line = send_fault requesters q line
command_fault requesters q kind.Beat line = session_fault requesters q line
command_fault requesters q kind.End line = session_fault requesters q line
command_fault requesters q kind.Update line = update_fault requesters q line
command_fault requesters q kind.Measure line = measure_fault requesters q line

abbrev pub command_of : (q : ℕ) → CommandKind → List ℕ → LinkEvent
command_of q kind.Connect line = event.Connect q
command_of q kind.Retry line = event.Retry q
command_of q kind.Open line = event.Open q (value_of (word 2 line))
command_of q kind.Send line = event.Send q (value_of (word 2 line)) (bytes_of (word 3 line))
command_of q kind.Beat line = event.Beat q (value_of (word 2 line))
command_of q kind.End line = event.End q (value_of (word 2 line))
command_of q kind.Update line = event.Update q (value_of (word 2 line)) (says_all (word 3 line))
command_of q kind.Measure line = event.Measure q (place_of (word 2 line)) (value_of (word 3 line))
