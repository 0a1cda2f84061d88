-- What was read of an input. This project's own.
use Rattle.std.specs.Prelude.{◌≡◌, ◌++◌, ℕ, List, Option, Some}
use Rattle.frame_stream.specs.Text.{behind_text, end_line, text_to}

-- Of a source that tells what it has left the text up to this line was read, with these bytes after it; what it has left
-- now are the other bytes after the text.
abbrev pub IsTextTo : (last : List ℕ) → Option (List ℕ) → (text before : List ℕ) → Option (List ℕ) → Type 0
IsTextTo last old text before new =
    (left : List ℕ) → old ≡ Some left
    → (text ≡ text_to last left) × ((rest : List ℕ) × (new ≡ Some rest) × (behind_text last left ≡ before ++ rest))

-- Of such a source the text up to `end` was read.
abbrev pub IsTextOf : Option (List ℕ) → (text before : List ℕ) → Option (List ℕ) → Type 0
IsTextOf old text before new = IsTextTo end_line old text before new
