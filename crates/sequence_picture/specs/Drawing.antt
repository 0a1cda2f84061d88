-- The SVG of a picture. Numbers stand behind single spaces, as paths and transformations allow. This project's own.
use Rattle.std.specs.Prelude.{ℕ, zero, suc, List, ◌++◌, ◌+◌, ◌-◌, ◌*◌, ◌/◌, ◌==◌, nat_lt, codes, if◌then◌else◌}
use Rattle.std.specs.Fmt.{decimal}
use Rattle.sequence_picture.specs.declared.rows.Arrow.{Arrow}
use Rattle.sequence_picture.specs.declared.rows.Colour.{Colour}
use Rattle.sequence_picture.specs.declared.rows.Colour.TheVariants.{Blue, Green, Orange, Purple}
use Rattle.sequence_picture.specs.declared.rows.Fate.{Fate}
use Rattle.sequence_picture.specs.declared.rows.Fate.TheVariants.{Arrives, Ignored, Lost}
use Rattle.sequence_picture.specs.declared.rows.Note.{Note}
use Rattle.sequence_picture.specs.declared.rows.Style.{Style}
use Rattle.sequence_picture.specs.declared.rows.Style.TheVariants.{Message, Part, Record, Unread}
use Rattle.trace_text.specs.Spelling.{requester_word, with_word}

-- ---- Places, in pixels: ends stand side by side, and rows one below the other.

abbrev pub x_of : (end : ℕ) → ℕ
x_of end = 130 + 240 * end

abbrev pub y_of : (row : ℕ) → ℕ
y_of row = 72 + 26 * row

-- The size of a picture of so many requesters and the responder, with so many rows.
abbrev pub width_of : (requesters : ℕ) → ℕ
width_of requesters = x_of requesters + 290

abbrev pub height_of : (rows : ℕ) → ℕ
height_of rows = y_of rows + 10

-- ---- Marks.

-- Two coordinates.
abbrev pub with_point : List ℕ → (x y : ℕ) → List ℕ
with_point text x y = with_word (with_word text (decimal x)) (decimal y)

-- A straight line from a point to another, of this class.
abbrev pub with_path : List ℕ → (class : List ℕ) → (x y to_x to_y : ℕ) → List ℕ
with_path text class x y to_x to_y =
    with_point (with_point (((text ++ codes "<path class='") ++ class) ++ codes "' d='M") x y ++ codes " L") to_x to_y ++ codes "'/>\n"

-- The beginning of a text at a point.
abbrev pub with_place : List ℕ → (x y : ℕ) → List ℕ
with_place text x y = with_point (text ++ codes "<text transform='translate(") x y ++ codes ")'>"

-- ---- A packet: an arrow between its ends, with its number and its label above it. At both ends stands a piece of a
-- band in the colour of what the packet has.

abbrev pub colour_class : Colour → List ℕ
colour_class Blue = codes "record blue"
colour_class Green = codes "record green"
colour_class Orange = codes "record orange"
colour_class Purple = codes "record purple"

abbrev pub style_class : Style → List ℕ
style_class Message = codes "message"
style_class (Record colour) = colour_class colour
style_class Part = codes "part"
style_class Unread = codes "unread"

abbrev pub fate_class : Fate → List ℕ
fate_class Arrives = codes "arrives"
fate_class Lost = codes "lost"
fate_class Ignored = codes "ignored"

-- The beginning of a group.
abbrev pub with_group : List ℕ → Style → Fate → List ℕ
with_group text style fate = with_word ((text ++ codes "<g class='") ++ style_class style) (fate_class fate) ++ codes "'>\n"

abbrev pub with_band : List ℕ → (end row : ℕ) → List ℕ
with_band text end row = with_path text (codes "band") (x_of end) (y_of row - 20) (x_of end) (y_of row + 6)

-- The line of the arrow.
abbrev pub with_line : List ℕ → (from to row : ℕ) → List ℕ
with_line text from to row = with_path text (codes "arrow") (x_of from) (y_of row) (x_of to) (y_of row)

abbrev pub with_label : List ℕ → (row : ℕ) → Arrow → List ℕ
with_label text row a =
    with_word (with_word (with_place text ((x_of a.from + x_of a.to) / 2) (y_of row - 5)) (decimal a.number)) a.label ++ codes "</text></g>\n"

abbrev pub with_arrow : List ℕ → (row : ℕ) → Arrow → List ℕ
with_arrow text row a =
    with_label (with_line (with_band (with_band (with_group text a.style a.fate) a.from row) a.to row) a.from a.to row) row a

-- ---- A note: beside the lifeline of its end.

abbrev pub with_note : List ℕ → (row : ℕ) → Note → List ℕ
with_note text row n =
    (with_place (with_word (text ++ codes "<g class='note") (fate_class n.fate) ++ codes "'>") (x_of n.end + 10) (y_of row) ++ n.text) ++ codes "</text></g>\n"

-- ---- The frame: its size, the look of each class, and a lifeline with a name for each end.

-- The name of an end.
abbrev pub end_name : (requesters end : ℕ) → List ℕ
end_name requesters end =
    if nat_lt end requesters then requester_word (end + 1)
    else (if end == requesters then codes "r"
    else codes "other")

abbrev pub with_life : List ℕ → (requesters rows end : ℕ) → List ℕ
with_life text requesters rows end =
    (with_place (with_path text (codes "life") (x_of end) 40 (x_of end) (height_of rows)) (x_of end) 28 ++ end_name requesters end) ++ codes "</text>\n"

-- The lifelines of the first so many ends.
unfoldable pub with_lives : List ℕ → (requesters rows count : ℕ) → List ℕ
with_lives text requesters rows zero = text
with_lives text requesters rows (suc count) = with_life (with_lives text requesters rows count) requesters rows count

abbrev pub with_size : List ℕ → (requesters rows : ℕ) → List ℕ
with_size text requesters rows =
    with_word (with_word ((with_word (text ++ codes "<svg xmlns='http://www.w3.org/2000/svg' style='background:#fff;width:") (decimal (width_of requesters)) ++ codes "px' viewBox='0 0")) (decimal (width_of requesters))) (decimal (height_of rows))
    ++ codes "'>\n"

-- How the classes of texts and of styles look.
abbrev pub with_look : List ℕ → List ℕ
with_look text =
    (((((text ++ codes "<style>\n")
    ++ codes "text{font:11px monospace;text-anchor:middle;paint-order:stroke;stroke:#fff;stroke-width:3px}\n")
    ++ codes ".note text{text-anchor:start;font-style:italic;fill:#555}\n")
    ++ codes "path{fill:none;stroke:#222}.life{stroke:#999}.band{stroke-width:8;stroke:#b0bec5}\n")
    ++ codes ".arrow{stroke-width:1.3;marker-end:url(#head)}.record .arrow{stroke-width:2.6}\n")
    ++ codes ".blue path{stroke:#1565c0}.green path{stroke:#2e7d32}.orange path{stroke:#e65100}.purple path{stroke:#6a1b9a}\n"

-- How the styles and the fates of packets look.
abbrev pub with_fates : List ℕ → List ℕ
with_fates text =
    (((text ++ codes ".part .arrow{stroke:#546e7a}.unread .arrow{stroke:#c62828}.unread .band{stroke:none}\n")
    ++ codes ".lost .arrow{stroke:#c62828;stroke-dasharray:7 5;marker-end:url(#cross)}.lost text{fill:#c62828}\n")
    ++ codes ".ignored .arrow{stroke-dasharray:2 4}.ignored text{fill:#c62828}\n")
    ++ codes "</style>\n<defs>\n"

-- The heads of arrows.
abbrev pub with_heads : List ℕ → List ℕ
with_heads text =
    ((text ++ codes "<marker id='head' markerUnits='userSpaceOnUse' markerWidth='11' markerHeight='9' refX='10' refY='4.5' orient='auto'><path d='M0 0 L10 4.5 L0 9 z' style='fill:context-stroke;stroke:none'/></marker>\n")
    ++ codes "<marker id='cross' markerUnits='userSpaceOnUse' markerWidth='22' markerHeight='11' refX='20' refY='5.5' orient='auto'><path d='M0 1 L9 10 M0 10 L9 1' style='stroke:#c62828;stroke-width:2'/></marker>\n")
    ++ codes "</defs>\n"

-- The lifelines are those of the requesters and of the responder.
abbrev pub with_frame : List ℕ → (requesters rows : ℕ) → List ℕ
with_frame text requesters rows = with_lives (with_heads (with_fates (with_look (with_size text requesters rows)))) requesters rows (requesters + 1)
