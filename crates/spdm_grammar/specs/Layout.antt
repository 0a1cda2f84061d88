-- A message as its fields, one after the other: this project's own way to write the tables of DSP0274, section 10.
use Rattle.std.specs.Prelude.{◌≡◌, ◌≤◌, ◌+◌, ◌*◌, ◌/◌, ◌%◌, ℕ, zero, suc, Bool, true, false, List, [], ◌++◌, length, slice_index, Option, Some, None}
use Rattle.byteorder.specs.Endian.{little_number}

-- The fields of a message from some place on, and the value that they give. What comes after a field may depend on its
-- value.
pub data Layout (A : Type 0) : Type 0 where
  -- No field is left, and this is the value.
  Whole : (value : A) → Layout A
  -- No field is left, and this is the value, where the Length field at this offset tells the length of the message.
  Sized : (told : ℕ) → (told_at : ℕ) → (value : A) → Layout A
  -- A number of so many bytes, little-endian, that is allowed.
  Number : (width : ℕ) → (is_allowed : ℕ → Bool) → (next : ℕ → Layout A) → Layout A
  -- A number of so many bytes where it is there, else nothing.
  Optional : (is_there : Bool) → (width : ℕ) → (next : Option ℕ → Layout A) → Layout A
  -- So many bytes, whatever they are.
  Bytes : (width : ℕ) → (next : List ℕ → Layout A) → Layout A
  -- So many algorithm structures, as they stand.
  Tables : (count : ℕ) → (next : List ℕ → Layout A) → Layout A
  -- All bytes that are left, of which there are at most so many.
  UpTo : (most : ℕ) → (value : List ℕ → A) → Layout A
  -- All bytes that are left.
  Remaining : (value : List ℕ → A) → Layout A

-- Reserved bytes: anything when read. They are written as zero.
abbrev pub reserved : {A : Type 0} → ℕ → Layout A → Layout A
reserved width next = Bytes width (λ _. next)

-- An algorithm structure (DSP0274, "Algorithm request structure"): a type, a count with 2 in its high four bits and the number of external entries in its low four, a value of two bytes, and the entries of four bytes each.
pub record IsTable (bytes : List ℕ) : Type 0 where
  pub fixed_part : 4 ≤ length bytes
  pub fixed_count : slice_index bytes 1 / 16 ≡ 2
  pub entries : length bytes ≡ 4 + 4 * (slice_index bytes 1 % 16)

-- So many algorithm structures, one after the other.
abbrev pub AreTables : ℕ → List ℕ → Type 0
AreTables zero bytes = bytes ≡ []
AreTables (suc count) bytes = (table : List ℕ) × (others : List ℕ) × (bytes ≡ table ++ others) × IsTable table × AreTables count others

-- The bytes after the first so many of a message encode the value: they are the fields, one after the other, each of
-- its width and with an allowed value.
abbrev pub IsSpelling : {A : Type 0} → Layout A → ℕ → A → List ℕ → Type 0
IsSpelling (Whole value) at v bytes = (v ≡ value) × (bytes ≡ [])
IsSpelling (Sized told told_at value) at v bytes = (v ≡ value) × (bytes ≡ []) × (told ≡ at)
IsSpelling (Number width is_allowed next) at v bytes =
    (field : List ℕ) × (others : List ℕ) × (bytes ≡ field ++ others) × (length field ≡ width) × (is_allowed (little_number width field) ≡ true) × IsSpelling (next (little_number width field)) (at + width) v others
IsSpelling (Optional false width next) at v bytes = IsSpelling (next None) at v bytes
IsSpelling (Optional true width next) at v bytes =
    (field : List ℕ) × (others : List ℕ) × (bytes ≡ field ++ others) × (length field ≡ width) × IsSpelling (next (Some (little_number width field))) (at + width) v others
IsSpelling (Bytes width next) at v bytes =
    (field : List ℕ) × (others : List ℕ) × (bytes ≡ field ++ others) × (length field ≡ width) × IsSpelling (next field) (at + width) v others
IsSpelling (Tables count next) at v bytes =
    (field : List ℕ) × (others : List ℕ) × (bytes ≡ field ++ others) × AreTables count field × IsSpelling (next field) (at + length field) v others
IsSpelling (UpTo most value) at v bytes = (v ≡ value bytes) × (length bytes ≤ most)
IsSpelling (Remaining value) at v bytes = v ≡ value bytes
