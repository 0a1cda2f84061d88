-- The two parts of an input: a text up to its last line, and the stream after it. This project's own.
use Rattle.std.specs.Prelude.{ℕ, List, [], ◌∷◌, ◌==◌, ◌&&◌, Bool, true, false, length, drop, if◌then◌else◌}
use Rattle.frame_stream.specs.declared.line.LastLine.{LastLine}
use Rattle.frame_stream.specs.declared.line.LastLine.TheVariants.{End, Go}

-- The line `end` with its line feed, and the line `go` with its own.
abbrev pub end_line : List ℕ
end_line = 101 ∷ 110 ∷ 100 ∷ 10 ∷ []

abbrev pub go_line : List ℕ
go_line = 103 ∷ 111 ∷ 10 ∷ []

abbrev pub line_of : LastLine → List ℕ
line_of End = end_line
line_of Go = go_line

-- Bytes begin with these.
abbrev pub begin_with : List ℕ → List ℕ → Bool
begin_with [] bytes = true
begin_with (p ∷ others) [] = false
begin_with (p ∷ others) (b ∷ bytes) = b == p && begin_with others bytes

-- The text before bytes, of which the first begins a line or not. Where a line begins and it is the last line with a line
-- feed, the text ends with this line; each other byte belongs to it, and a line begins after each line feed. So the text is
-- all bytes where there is no such line, and where the last line lacks its line feed at the very end.
abbrev pub text_from : (last : List ℕ) → (begins : Bool) → List ℕ → List ℕ
text_from last begins [] = []
text_from last begins (b ∷ bytes) =
    if begins && begin_with last (b ∷ bytes) then last
    else b ∷ text_from last (b == 10) bytes

-- The text of bytes: those up to and with the first line that is this one, or all of them; and all bytes after it.
abbrev pub text_to : (last : List ℕ) → List ℕ → List ℕ
text_to last bytes = text_from last true bytes

abbrev pub behind_text : (last : List ℕ) → List ℕ → List ℕ
behind_text last bytes = drop (length (text_to last bytes)) bytes

-- The text of an input: its bytes up to and with the first line that is `end`, or all of them.
abbrev pub text_of : List ℕ → List ℕ
text_of input = text_to end_line input

-- The stream of an input: all bytes after its text.
abbrev pub stream_of : List ℕ → List ℕ
stream_of input = drop (length (text_of input)) input
