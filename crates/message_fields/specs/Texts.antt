-- Fields as lines. This project's own.
use Rattle.std.specs.Prelude.{ℕ, List, [], ◌∷◌, ◌++◌, ◌+◌, ◌*◌, nat_lt, length, slice_index, if◌then◌else◌}
use Rattle.std.specs.Fmt.{decimal}
use Rattle.trace_text.specs.Spelling.{spelled, hex_word}
use Rattle.message_fields.specs.Flags.{flags_below}
use Rattle.message_fields.specs.Names.{form_of, name_text}
use Rattle.message_fields.specs.Pieces.{Piece, pieces}
use Rattle.message_fields.specs.declared.field.Field.{Field}
use Rattle.message_fields.specs.declared.names.Form.{Form}
use Rattle.message_fields.specs.declared.names.Form.TheVariants.{Capabilities, Number, Plain}

-- The value of a number, which has at most four bytes, the low byte first. Behind the last byte stand zeros.
abbrev pub number_of : List ℕ → ℕ
number_of bytes =
    if nat_lt 4 (length bytes) then 0
    else slice_index bytes 0 + 256 * slice_index bytes 1 + 65536 * slice_index bytes 2 + 16777216 * slice_index bytes 3

-- The words of a value behind its bytes.
abbrev pub value_words : Form → List ℕ → List (List ℕ)
value_words Plain bytes = []
value_words Number bytes = decimal (number_of bytes) ∷ []
value_words Capabilities bytes = flags_below 32 (number_of bytes)

-- The line of a field: four spaces, its name, its bytes, and of a number its value, or of capabilities their flags.
unfoldable pub piece_text : Piece → List ℕ
piece_text p = spelled ([] ∷ [] ∷ [] ∷ [] ∷ name_text p.name ∷ hex_word p.bytes ∷ value_words (form_of p.name) p.bytes)

abbrev pub pieces_text : List Piece → List ℕ
pieces_text [] = []
pieces_text (p ∷ others) = piece_text p ++ pieces_text others

-- The lines of fields of some bytes.
abbrev pub fields_text : List Field → List ℕ → List ℕ
fields_text fields bytes = pieces_text (pieces fields bytes)
