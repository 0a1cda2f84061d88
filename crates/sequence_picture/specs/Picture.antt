-- What is written of rows. This project's own.
use Rattle.std.specs.Prelude.{ℕ, List, [], ◌∷◌, ◌++◌, ◌+◌, codes, length}
use Rattle.sequence_picture.specs.Diagram as diagram
use Rattle.sequence_picture.specs.Drawing as drawing
use Rattle.sequence_picture.specs.declared.form.Form.{Form}
use Rattle.sequence_picture.specs.declared.form.Form.TheVariants.{Mermaid, Svg}
use Rattle.sequence_picture.specs.declared.rows.Row.{Row}
use Rattle.sequence_picture.specs.declared.rows.Row.TheVariants.{Aside, Packet}

-- A row, which is that of a number, counted from 0.
unfoldable pub row_text : Form → (requesters row : ℕ) → Row → List ℕ
row_text Svg requesters row (Packet a) = drawing.with_arrow [] row a
row_text Svg requesters row (Aside n) = drawing.with_note [] row n
row_text Mermaid requesters row (Packet a) = diagram.with_arrow [] requesters a
row_text Mermaid requesters row (Aside n) = diagram.with_note [] requesters n

-- Rows of which the first has this number.
abbrev pub rows_from : Form → (requesters row : ℕ) → List Row → List ℕ
rows_from form requesters row [] = []
rows_from form requesters row (r ∷ others) = row_text form requesters row r ++ rows_from form requesters (row + 1) others

-- What stands before so many rows, and what after them.
unfoldable pub head_text : Form → (requesters rows : ℕ) → List ℕ
head_text Svg requesters rows = drawing.with_frame [] requesters rows
head_text Mermaid requesters rows = diagram.with_head [] requesters

abbrev pub tail_text : Form → List ℕ
tail_text Svg = codes "</svg>\n"
tail_text Mermaid = []

-- The picture of rows that stand between so many requesters and the responder.
abbrev pub picture_text : Form → (requesters : ℕ) → List Row → List ℕ
picture_text form requesters rows = head_text form requesters (length rows) ++ (rows_from form requesters 0 rows ++ tail_text form)
