-- The text of a sequence diagram for Mermaid. This project's own.
use Rattle.std.specs.Prelude.{ℕ, zero, suc, List, [], ◌∷◌, ◌++◌, ◌+◌, codes, Bool, true, false}
use Rattle.std.specs.Fmt.{decimal}
use Rattle.sequence_picture.specs.Drawing.{end_name}
use Rattle.sequence_picture.specs.declared.rows.Arrow.{Arrow}
use Rattle.sequence_picture.specs.declared.rows.Fate.{Fate}
use Rattle.sequence_picture.specs.declared.rows.Fate.TheVariants.{Arrives, Ignored, Lost}
use Rattle.sequence_picture.specs.declared.rows.Note.{Note}
use Rattle.sequence_picture.specs.declared.rows.Style.{Style}
use Rattle.sequence_picture.specs.declared.rows.Style.TheVariants.{Record}
use Rattle.trace_text.specs.Spelling.{with_word}

-- The line of an arrow: dotted for a record. Its head is a cross where the packet is lost, and open where it leads to
-- nothing.
abbrev pub is_dotted : Style → Bool
is_dotted (Record colour) = true
is_dotted style = false

abbrev pub arrow_sign : (dotted : Bool) → Fate → List ℕ
arrow_sign false Arrives = codes "->>"
arrow_sign false Lost = codes "-x"
arrow_sign false Ignored = codes "-)"
arrow_sign true Arrives = codes "-->>"
arrow_sign true Lost = codes "--x"
arrow_sign true Ignored = codes "--)"

abbrev pub with_arrow : List ℕ → (requesters : ℕ) → Arrow → List ℕ
with_arrow text requesters a =
    with_word (with_word (((((text ++ codes "    ") ++ end_name requesters a.from) ++ arrow_sign (is_dotted a.style) a.fate) ++ end_name requesters a.to) ++ codes ":") (decimal a.number)) a.label ++ 10 ∷ []

abbrev pub with_note : List ℕ → (requesters : ℕ) → Note → List ℕ
with_note text requesters n = with_word (((text ++ codes "    Note over ") ++ end_name requesters n.end) ++ codes ":") n.text ++ 10 ∷ []

abbrev pub with_name : List ℕ → (requesters end : ℕ) → List ℕ
with_name text requesters end = ((text ++ codes "    participant ") ++ end_name requesters end) ++ 10 ∷ []

-- The names of the first so many ends.
unfoldable pub with_names : List ℕ → (requesters count : ℕ) → List ℕ
with_names text requesters zero = text
with_names text requesters (suc count) = with_name (with_names text requesters count) requesters count

abbrev pub with_head : List ℕ → (requesters : ℕ) → List ℕ
with_head text requesters = with_names (text ++ codes "sequenceDiagram\n") requesters (requesters + 1)
