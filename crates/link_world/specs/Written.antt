-- The lines of an event as they are written, and where a full link ends them. This project's own.
use Rattle.std.specs.Prelude.{ℕ, List, [], ◌∷◌, ◌++◌, ◌||◌, nat_lt, if◌then◌else◌, Bool, false}
use Rattle.trace_text.specs.TraceLines.{line_text}
use Rattle.spdm_grammar.specs.Lines.{Line}
use Rattle.spdm_grammar.specs.Lines.Line.{Packet}
use Rattle.world_machine.specs.Trace.{packets_max}

-- Lines one after the other.
abbrev pub text_of : List Line → List ℕ
text_of [] = []
text_of (line ∷ others) = line_text line ++ text_of others

-- The line of a packet for which the link has no room.
abbrev pub is_beyond : Line → Bool
is_beyond (Packet number bytes) = nat_lt packets_max number
is_beyond _ = false

-- Among the lines is that of a packet for which the link has no room.
abbrev pub has_full : List Line → Bool
has_full [] = false
has_full (line ∷ others) = is_beyond line || has_full others

-- The lines before the first such line.
abbrev pub before_full : List Line → List Line
before_full [] = []
before_full (line ∷ others) = if is_beyond line then [] else line ∷ before_full others
