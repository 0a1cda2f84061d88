-- Fields as JSON: an array with an object for each. This project's own.
use Rattle.std.specs.Prelude.{ℕ, zero, suc, List, [], ◌∷◌, ◌++◌, ◌/◌, ◌%◌, ◌^◌, ◌==◌, codes, if◌then◌else◌}
use Rattle.message_fields.specs.Flags.{flag_name}
use Rattle.message_fields.specs.Json.{with_bytes_member, with_name, with_next_name, with_number_member, with_string}
use Rattle.message_fields.specs.Names.{form_of, name_text}
use Rattle.message_fields.specs.Pieces.{Piece, pieces}
use Rattle.message_fields.specs.Texts.{number_of}
use Rattle.message_fields.specs.declared.field.Field.{Field}
use Rattle.message_fields.specs.declared.names.Form.{Form}
use Rattle.message_fields.specs.declared.names.Form.TheVariants.{Capabilities, Number, Plain}

-- The flag of a bit where it is set, behind a comma where a lower one is.
abbrev pub flag_behind : (is_set below bit : ℕ) → List ℕ
flag_behind is_set below bit =
    if is_set == 1 then with_string (if below == 0 then [] else 44 ∷ []) (flag_name bit)
    else []

-- The flags of a number that stand below a bit, the lowest first.
unfoldable pub flags_json : (bit number : ℕ) → List ℕ
flags_json zero number = []
flags_json (suc bit) number = flags_json bit number ++ flag_behind (number / 2 ^ bit % 2) (number % 2 ^ bit) bit

-- The value of a field behind its bytes: of a number a member `value`, of capabilities the array of their flags.
abbrev pub with_value : List ℕ → Form → List ℕ → List ℕ
with_value text Plain bytes = text
with_value text Number bytes = with_number_member text (codes "value") (number_of bytes)
with_value text Capabilities bytes = ((with_next_name text (codes "flags") ++ 32 ∷ 91 ∷ []) ++ flags_json 32 (number_of bytes)) ++ 93 ∷ []

-- The object of a field: its name, its bytes, and of a number its value, or of capabilities their flags.
abbrev pub with_piece : List ℕ → Piece → List ℕ
with_piece text p =
    with_value (with_bytes_member (with_string (with_name (text ++ 123 ∷ []) (codes "name")) (name_text p.name)) (codes "bytes") p.bytes) (form_of p.name) p.bytes ++ 125 ∷ []

-- The objects of fields, of which the first has this in front of it, and each other a comma and a space.
abbrev pub pieces_json : (before : List ℕ) → List Piece → List ℕ
pieces_json before [] = []
pieces_json before (p ∷ others) = with_piece before p ++ pieces_json (44 ∷ 32 ∷ []) others

-- The array of the fields of some bytes.
abbrev pub with_fields : List ℕ → List Field → List ℕ → List ℕ
with_fields text fields bytes = ((text ++ 32 ∷ 91 ∷ []) ++ pieces_json [] (pieces fields bytes)) ++ 93 ∷ []
