-- The lines of a trace as notes beside the ends. This project's own.
use Rattle.std.specs.Prelude.{ℕ, List, [], ◌∷◌, ◌+◌, ◌-◌, ◌==◌, ◌||◌, codes, bytes_eq, drop, length, take, slice_index, if◌then◌else◌, Bool}
use Rattle.capture_picture.specs.Arrows.{requesters_of}
use Rattle.script_text.specs.declared.configuration.config.ScriptConfig.{ScriptConfig}
use Rattle.sequence_picture.specs.declared.rows.Fate.{Fate}
use Rattle.sequence_picture.specs.declared.rows.Fate.TheVariants.{Arrives, Ignored}
use Rattle.sequence_picture.specs.declared.rows.Note.{Note}
use Rattle.sequence_picture.specs.declared.rows.Row.{Row}
use Rattle.sequence_picture.specs.declared.rows.Row.TheVariants.{Aside}

-- A line feed.
abbrev pub is_feed : ℕ → Bool
is_feed b = b == 10

-- A line begins so.
abbrev pub begins : (words line : List ℕ) → Bool
begins words line = bytes_eq (take (length words) line) words

-- ---- The end that a line tells of.

-- The requester whose digit stands at a place, counted from 0.
abbrev pub requester_at : (place : ℕ) → List ℕ → ℕ
requester_at place line = slice_index line place - 49

abbrev pub is_of_responder : List ℕ → Bool
is_of_responder line =
    begins (codes "to r ") line || begins (codes "r ") line || begins (codes "state r ") line || begins (codes "session r ") line || begins (codes "data r ") line

unfoldable pub end_in : ScriptConfig → List ℕ → ℕ
end_in config line =
    if is_of_responder line then requesters_of config
    else (if begins (codes "to q") line then requester_at 4 line
    else (if begins (codes "q") line then requester_at 1 line
    else (if begins (codes "state q") line then requester_at 7 line
    else (if begins (codes "session q") line then requester_at 9 line
    else (if begins (codes "data q") line then requester_at 6 line
    else (if begins (codes "record q") line then requester_at 8 line
    else requesters_of config + 1))))))

-- ---- What led to nothing.

-- What stands behind the end in a line that tells of a packet.
abbrev pub outcome_in : List ℕ → List ℕ
outcome_in line =
    if begins (codes "to r ") line then drop 5 line
    else (if begins (codes "to q") line then drop 6 line
    else [])

abbrev pub is_nothing : List ℕ → Bool
is_nothing outcome =
    begins (codes "ignored") outcome || begins (codes "unopened") outcome || begins (codes "refused") outcome || begins (codes "lost") outcome

unfoldable pub fate_in : List ℕ → Fate
fate_in line = if is_nothing (outcome_in line) || begins (codes "no") line then Ignored else Arrives

-- ---- The note of a line: its first 40 bytes. The place of the event in the script has none.

abbrev pub note_of : ScriptConfig → List ℕ → Note
note_of config line = record { end = end_in config line; fate = fate_in line; text = take 40 line }

abbrev pub is_untold : List ℕ → Bool
is_untold line = length line == 0 || slice_index line 0 == 64

unfoldable pub note_rows : ScriptConfig → List ℕ → List Row
note_rows config line = if is_untold line then [] else Aside (note_of config line) ∷ []
