-- The value that bytes encode, field by field, or where they are at fault. This project's own: DSP0274 names no places.
use Rattle.std.specs.Prelude.{◌+◌, ◌-◌, ◌*◌, ◌/◌, ◌%◌, ◌==◌, ℕ, zero, suc, Bool, List, length, take, drop, nat_lt, if◌then◌else◌, Option, Some, None, Result, Ok, Err}
use Rattle.byteorder.specs.Endian.{little_number}
use Rattle.spdm_grammar.specs.declared.messages.malformed.Malformed.{Malformed}
use Rattle.spdm_grammar.specs.declared.messages.malformed.Part.TheVariants.{End, Field, Length, Rest}
use Rattle.spdm_grammar.specs.Layout.{Layout}
use Rattle.spdm_grammar.specs.Layout.Layout.{Whole, Sized, Number, Optional, Bytes, Tables, UpTo, Remaining}

-- A place in the input: the bytes that are left, and how many came before them.
pub record Place : Type 0 where
  pub rest : List ℕ
  pub at : ℕ

-- A step of reading, and the next one where the first has no fault.
abbrev pub and_then : {A B : Type 0} → Result A Malformed → (A → Result B Malformed) → Result B Malformed
and_then (Ok x) next = next x
and_then (Err fault) next = Err fault

-- The bytes of one field and the place after it; where they are not all there, End at the end of the input.
unfoldable pub field_at : ℕ → Place → Result (List ℕ × Place) Malformed
field_at width p =
    if nat_lt (length p.rest) width then Err (record { at = p.at + length p.rest; what = End })
    else Ok (take width p.rest, record { rest = drop width p.rest; at = p.at + width })

-- The number of one field, little-endian, and the place after it.
unfoldable pub number_at : ℕ → Place → Result (ℕ × Place) Malformed
number_at width p = and_then (field_at width p) (λ field. Ok (little_number width field.0, field.1))

-- The number of a field that may be left out, and the place after it.
unfoldable pub optional_at : Bool → ℕ → Place → Result (Option ℕ × Place) Malformed
optional_at is_there width p =
    if is_there then and_then (number_at width p) (λ number. Ok (Some number.0, number.1)) else Ok (None, p)

-- The place after one algorithm structure: type, count with 2 in its high four bits, and then the value and the
-- external entries.
unfoldable pub behind_table : Place → Result Place Malformed
behind_table p =
    and_then (field_at 1 p) (λ kind.
    and_then (number_at 1 kind.1) (λ count.
    if count.0 / 16 == 2 then and_then (field_at (2 + 4 * (count.0 % 16)) count.1) (λ others. Ok others.1)
    else Err (record { at = kind.1.at; what = Field })))

-- The place after so many of them.
unfoldable pub behind_tables : ℕ → Place → Result Place Malformed
behind_tables zero p = Ok p
behind_tables (suc count) p = and_then (behind_table p) (λ after. behind_tables count after)

-- So many algorithm structures as they stand, and the place after them.
unfoldable pub tables_at : ℕ → Place → Result (List ℕ × Place) Malformed
tables_at count p = and_then (behind_tables count p) (λ after. Ok (take (after.at - p.at) p.rest, after))

-- The value, where no field is left; else Rest at the first byte after the last field.
abbrev pub ended : {A : Type 0} → A → Place → Result A Malformed
ended value p = if length p.rest == 0 then Ok value else Err (record { at = p.at; what = Rest })

-- The value, where no field is left and the Length field told the length of all of them; else Length at the Length field, before Rest.
abbrev pub ended_sized : {A : Type 0} → ℕ → ℕ → A → Place → Result A Malformed
ended_sized told told_at value p = if told == p.at then ended value p else Err (record { at = told_at; what = Length })

-- All bytes that are left, of which there are at most so many; else Rest at the first one too many.
abbrev pub all_up_to : ℕ → Place → Result (List ℕ) Malformed
all_up_to most p = if nat_lt most (length p.rest) then Err (record { at = p.at + most; what = Rest }) else Ok p.rest

-- The value that the bytes from a place on encode, or the first fault in the order of the fields: End where the bytes
-- of a field are not all there, Field at the first byte of a field whose value is not allowed, Length after all fields
-- at the Length field, Rest last of all.
abbrev pub read : {A : Type 0} → Layout A → Place → Result A Malformed
read (Whole value) p = ended value p
read (Sized told told_at value) p = ended_sized told told_at value p
read (Number width is_allowed next) p =
    and_then (number_at width p) (λ number. if is_allowed number.0 then read (next number.0) number.1 else Err (record { at = p.at; what = Field }))
read (Optional is_there width next) p = and_then (optional_at is_there width p) (λ number. read (next number.0) number.1)
read (Bytes width next) p = and_then (field_at width p) (λ field. read (next field.0) field.1)
read (Tables count next) p = and_then (tables_at count p) (λ field. read (next field.0) field.1)
read (UpTo most value) p = and_then (all_up_to most p) (λ field. Ok (value field))
read (Remaining value) p = Ok (value p.rest)

-- The front of the input.
abbrev pub front : List ℕ → Place
front bytes = record { rest = bytes; at = 0 }
