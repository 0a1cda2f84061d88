-- The lines of events: which faults each kind has, in order, and what it says. This project's own.
use Rattle.std.specs.Prelude.{ℕ, List, [], ◌∷◌, ◌^◌, ◌-◌, nat_le, not, codes, bytes_eq, if◌then◌else◌, Bool, false, Option, Some, None}
use Rattle.std.specs.Option.{option_map}
use Rattle.script_text.specs.Choices.{requester_in}
use Rattle.script_text.specs.Commands.{command_kind, command_fault, command_of}
use Rattle.script_text.specs.HexWords.{is_hex_in, bytes_of, most_bytes}
use Rattle.script_text.specs.Lines.{word, has_words}
use Rattle.script_text.specs.Numbers.{is_number_in, value_of}
use Rattle.script_text.specs.Tests.{first_of_tests}
use Rattle.script_text.specs.declared.events.event.LinkEvent.{LinkEvent}
use Rattle.script_text.specs.declared.events.event.LinkEvent.TheVariants as event
use Rattle.script_text.specs.declared.events.event_kind.EventKind.{EventKind}
use Rattle.script_text.specs.declared.events.event_kind.EventKind.TheVariants as kind
use Rattle.script_text.specs.declared.texts.faults.LineFault.{LineFault}
use Rattle.script_text.specs.declared.texts.faults.LineFault.TheVariants.{Words, Number, Hex, NoSuchEnd}

-- The kind of a line that begins with no requester.
unfoldable pub other_kind : List ℕ → Option EventKind
other_kind word =
    if bytes_eq word (codes "reply") then Some kind.Reply
    else (if bytes_eq word (codes "deliver") then Some kind.Deliver
    else (if bytes_eq word (codes "lose") then Some kind.Lose
    else (if bytes_eq word (codes "inject") then Some kind.Inject
    else (if bytes_eq word (codes "pump") then Some kind.Pump
    else (if bytes_eq word (codes "tick") then Some kind.Tick
    else (if bytes_eq word (codes "show") then Some kind.Show
    else None))))))

-- The kind of a line that begins with a requester, if it does, and goes on with this word.
abbrev pub kind_behind : Option ℕ → (first second : List ℕ) → Option EventKind
kind_behind None first second = other_kind first
kind_behind (Some q) first second = option_map (kind.Command q) (command_kind second)

-- The kind of an event by its first two words.
abbrev pub event_kind : List ℕ → Option EventKind
event_kind line = kind_behind (requester_in (word 0 line)) (word 0 line) (word 1 line)

-- ---- `reply qN H`.

-- The requester of the line is configured.
abbrev pub is_configured : ℕ → Option ℕ → Bool
is_configured requesters None = false
is_configured requesters (Some q) = nat_le q requesters

unfoldable pub reply_fault : (requesters : ℕ) → List ℕ → Option LineFault
reply_fault requesters line = first_of_tests (
    (not (has_words 3 line), Words)
    ∷ (not (is_hex_in 0 most_bytes (word 2 line)), Hex)
    ∷ (not (is_configured requesters (requester_in (word 1 line))), NoSuchEnd)
    ∷ [])

-- ---- `deliver K`, `lose K`, `pump N` and `tick N`: one number.

unfoldable pub number_fault : (limit : ℕ) → List ℕ → Option LineFault
number_fault limit line = first_of_tests (
    (not (has_words 2 line), Words)
    ∷ (not (is_number_in 0 limit (word 1 line)), Number)
    ∷ [])

-- ---- `inject H`.

unfoldable pub inject_fault : List ℕ → Option LineFault
inject_fault line = first_of_tests (
    (not (has_words 2 line), Words)
    ∷ (not (is_hex_in 0 most_bytes (word 1 line)), Hex)
    ∷ [])

-- ---- `show`.

unfoldable pub show_fault : List ℕ → Option LineFault
show_fault line = first_of_tests (
    (not (has_words 1 line), Words)
    ∷ [])

-- ---- An event of any kind, where `requesters` are configured. Packets have numbers below 2^32; at most 65,536
-- packets are pumped, and at most 1,000,000 seconds pass.

abbrev pub event_fault : (requesters : ℕ) → EventKind → List ℕ → Option LineFault
event_fault requesters (kind.Command q command) line = command_fault requesters q command line
event_fault requesters kind.Reply line = reply_fault requesters line
event_fault requesters kind.Deliver line = number_fault (2 ^ 32 - 1) line
event_fault requesters kind.Lose line = number_fault (2 ^ 32 - 1) line
event_fault requesters kind.Inject line = inject_fault line
event_fault requesters kind.Pump line = number_fault 65536 line
event_fault requesters kind.Tick line = number_fault 1000000 line
event_fault requesters kind.Show line = show_fault line

-- The requester that a word names, 0 where it names none.
abbrev pub named : Option ℕ → ℕ
named None = 0
named (Some q) = q

abbrev pub event_of : EventKind → List ℕ → LinkEvent
event_of (kind.Command q command) line = command_of q command line
event_of kind.Reply line = event.Reply (named (requester_in (word 1 line))) (bytes_of (word 2 line))
event_of kind.Deliver line = event.Deliver (value_of (word 1 line))
event_of kind.Lose line = event.Lose (value_of (word 1 line))
event_of kind.Inject line = event.Inject (bytes_of (word 1 line))
event_of kind.Pump line = event.Pump (value_of (word 1 line))
event_of kind.Tick line = event.Tick (value_of (word 1 line))
event_of kind.Show line = event.Show
