-- What bytes are not a record for, and what a record holds. The order of the tests is this project's own.
use Rattle.std.specs.Prelude.{ℕ, ◌-◌, Bool, ◌||◌, not, nat_lt, List, [], ◌∷◌, length, take, drop, bytes_eq, Option, Some, None}
use Rattle.spdm_basis.specs.Tests.{first_of_tests}
use Rattle.byteorder.specs.Endian.{little_bytes, little_number}
use Rattle.aes_gcm.specs.Gcm.{crypt, tag_of}
use Rattle.secured_record.specs.Format.{nonce}
use Rattle.spdm_basis.specs.declared.causes.record_fault.RecordFault.{RecordFault}
use Rattle.spdm_basis.specs.declared.causes.record_fault.RecordFault.TheVariants.{Short, WrongId, WrongNumber, WrongLength, BadTag, BadInnerLength}
use Rattle.secured_record.specs.declared.TheConstants.{MAX_RECORD_SIZE, MIN_RECORD_SIZE}

-- The faults that are seen without the key: fewer bytes than a record without inner message and padding has, another
-- session id, another number, a length field that is not the count of bytes after it, and more bytes than a record may
-- have.
unfoldable pub header_fault : List ℕ → ℕ → List ℕ → Option RecordFault
header_fault id number sealed = first_of_tests (
    (nat_lt (length sealed) MIN_RECORD_SIZE, Short)
    ∷ (not (bytes_eq (take 4 sealed) id), WrongId)
    ∷ (not (bytes_eq (take 2 (drop 4 sealed)) (little_bytes 2 number)), WrongNumber)
    ∷ (not (bytes_eq (take 2 (drop 6 sealed)) (little_bytes 2 (length sealed - 8))) || nat_lt MAX_RECORD_SIZE (length sealed), WrongLength)
    ∷ [])

-- The encrypted text of a record, between its header and its tag, and the tag, its last 16 bytes.
abbrev pub text_part : List ℕ → List ℕ
text_part sealed = take (length (drop 8 sealed) - 16) (drop 8 sealed)

abbrev pub tag_part : List ℕ → List ℕ
tag_part sealed = drop (length (drop 8 sealed) - 16) (drop 8 sealed)

-- The tag of a record is that of its header and text.
unfoldable pub is_authentic : List ℕ → List ℕ → ℕ → List ℕ → Bool
is_authentic key iv number sealed = bytes_eq (tag_part sealed) (tag_of key (nonce iv number) (take 8 sealed) (text_part sealed))

-- The text of a record, decrypted.
unfoldable pub opened_text : List ℕ → List ℕ → ℕ → List ℕ → List ℕ
opened_text key iv number sealed = crypt key (nonce iv number) (text_part sealed)

-- The first fault of some bytes under a key, an initialization vector, a session id and a number: those of the header,
-- then another tag, then a length of the inner message that passes the bytes after it.
abbrev pub fault_behind : Option RecordFault → List ℕ → List ℕ → ℕ → List ℕ → Option RecordFault
fault_behind (Some fault) key iv number sealed = Some fault
fault_behind None key iv number sealed = first_of_tests (
    (not (is_authentic key iv number sealed), BadTag)
    ∷ (nat_lt (length (opened_text key iv number sealed) - 2) (little_number 2 (opened_text key iv number sealed)), BadInnerLength)
    ∷ [])

unfoldable pub fault_of : List ℕ → List ℕ → List ℕ → ℕ → List ℕ → Option RecordFault
fault_of key iv id number sealed = fault_behind (header_fault id number sealed) key iv number sealed

-- The inner message of a record.
unfoldable pub inner_of : List ℕ → List ℕ → ℕ → List ℕ → List ℕ
inner_of key iv number sealed = take (little_number 2 (opened_text key iv number sealed)) (drop 2 (opened_text key iv number sealed))
