-- The algorithm structures of an offer or a reply (DSP0274, "Algorithm request structure" and "Algorithm response structure").
use Rattle.std.specs.Prelude.{ℕ, zero, suc, ◌+◌, ◌*◌, ◌%◌, ◌==◌, if◌then◌else◌, List, [], ◌∷◌, drop, slice_index}
use Rattle.byteorder.specs.Endian.{little_number}

-- A structure without its external entries: its type and its fixed bits.
pub record Table : Type 0 where
  pub kind : ℕ
  pub value : ℕ

-- The fixed bits of the structure at the front: two bytes after type and count, little-endian.
abbrev pub front_value : List ℕ → ℕ
front_value bytes = little_number 2 (slice_index bytes 2 ∷ slice_index bytes 3 ∷ [])

-- The bytes after the structure at the front: it has four bytes, and four for each external entry, of which the low
-- four bits of its count tell the number.
abbrev pub behind_front : List ℕ → List ℕ
behind_front bytes = drop (4 + 4 * (slice_index bytes 1 % 16)) bytes

-- The structures that so many bytes hold, one after the other. In bytes that do not hold so many, which are no sound
-- message's, each missing byte counts as zero.
abbrev pub tables_in : ℕ → List ℕ → List Table
tables_in zero bytes = []
tables_in (suc count) bytes = record { kind = slice_index bytes 0; value = front_value bytes } ∷ tables_in count (behind_front bytes)

-- The fixed bits of a type: those of the first structure that has the type, and none where no structure has it.
abbrev pub value_of : ℕ → List Table → ℕ
value_of kind [] = 0
value_of kind (table ∷ others) = if table.kind == kind then table.value else value_of kind others
