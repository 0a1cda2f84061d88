-- The tags that an end computes, and what it compares them with. This project's own notion: agreement of the ends rests
-- on these comparisons alone.
use Rattle.std.specs.Prelude.{ℕ, ◌-◌, List, [], ◌∷◌, length, take, if◌then◌else◌, is_none}
use Rattle.aes_gcm.specs.Gcm.{tag_of}
use Rattle.key_schedule.specs.Purpose.{Purpose, key_of, iv_of}
use Rattle.secured_record.specs.Faults.{header_fault, tag_part, text_part}
use Rattle.secured_record.specs.Format.{nonce}
use Rattle.spdm_grammar.specs.declared.messages.choice.Choice.{Choice}

-- A tag was made; or one was made to be compared with a received one. Each has its purpose, what it was computed over,
-- and its value. What verify data are computed over is T1 or Tv. What the tag of a record is computed over is its
-- number, written in front, and the record without its tag.
pub data Act : Type 0 where
  Made : (purpose : Purpose) → (input : List ℕ) → (value : List ℕ) → Act
  Checked : (purpose : Purpose) → (input : List ℕ) → (value : List ℕ) → (received : List ℕ) → Act

-- The acts of an end or a world, the newest first.
abbrev pub Log : Type 0
Log = List Act

-- A record without its tag, its last 16 bytes.
abbrev pub without_tag : List ℕ → List ℕ
without_tag sealed = take (length sealed - 16) sealed

-- What the tag of a record is computed over.
abbrev pub record_input : ℕ → List ℕ → List ℕ
record_input number sealed = number ∷ without_tag sealed

-- The tag of a record under a purpose and number.
unfoldable pub record_tag : Choice → Purpose → ℕ → List ℕ → List ℕ
record_tag choice p number sealed =
    tag_of (key_of choice.hash choice.aead p) (nonce (iv_of choice.hash p) number) (take 8 sealed) (text_part sealed)

-- The tag of a record that an end sealed.
abbrev pub made_record : Choice → Purpose → ℕ → List ℕ → Act
made_record choice p number sealed = Made p (record_input number sealed) (record_tag choice p number sealed)

-- The tag of a record that came is compared where its header has no fault.
abbrev pub checked_record : Choice → Purpose → ℕ → List ℕ → List ℕ → List Act
checked_record choice p number id sealed =
    if is_none (header_fault id number sealed)
    then Checked p (record_input number sealed) (record_tag choice p number sealed) (tag_part sealed) ∷ []
    else []
