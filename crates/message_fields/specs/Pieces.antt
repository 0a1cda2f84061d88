-- Bytes cut into fields. This project's own.
use Rattle.std.specs.Prelude.{◌≡◌, ℕ, List, [], ◌∷◌, ◌++◌, take, drop}
use Rattle.message_fields.specs.declared.field.Field.{Field}
use Rattle.message_fields.specs.declared.names.Name.{Name}
use Rattle.message_fields.specs.declared.names.Name.TheVariants.{Rest}

-- A field and its bytes.
pub record Piece : Type 0 where
  pub name : Name
  pub bytes : List ℕ

-- Bytes behind all fields, if there are any.
abbrev pub rest_of : List ℕ → List Piece
rest_of [] = []
rest_of (b ∷ bytes) = record { name = Rest; bytes = b ∷ bytes } ∷ []

-- The bytes of each field, one after the other, and then what is left.
abbrev pub pieces : List Field → List ℕ → List Piece
pieces [] bytes = rest_of bytes
pieces (f ∷ fields) bytes = record { name = f.name; bytes = take f.size bytes } ∷ pieces fields (drop f.size bytes)

-- The bytes of pieces, one after the other.
abbrev pub joined : List Piece → List ℕ
joined [] = []
joined (p ∷ others) = p.bytes ++ joined others

-- Nothing is left out and nothing added: the bytes of the pieces are those that were cut.
abbrev pub PiecesAreWhole : Type 0
PiecesAreWhole = (fields : List Field) (bytes : List ℕ) → joined (pieces fields bytes) ≡ bytes
