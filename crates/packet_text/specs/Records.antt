-- Records in words: under which keys of its session each opens, its padding and its inner message, or why it does not open. A
-- text is given, and what is written of a record stands behind it. This project's own.
use Rattle.std.specs.Prelude.{ℕ, List, [], ◌∷◌, ◌++◌, ◌==◌, codes, length, if◌then◌else◌, Bool}
use Rattle.std.specs.Fmt.{decimal}
use Rattle.capture_bodies.specs.Collecting.{Large}
use Rattle.capture_records.specs.Showing.{Seen}
use Rattle.capture_records.specs.Showing.Seen.{Closed, NoRecord, NoSession, Open}
use Rattle.capture_records.specs.declared.opening.RecordKeys.{RecordKeys}
use Rattle.capture_records.specs.declared.opening.RecordKeys.TheVariants.{Data, Handshake}
use Rattle.message_fields.specs.Texts.{fields_text}
use Rattle.packet_text.specs.Bodies.{type_words, with_clear}
use Rattle.packet_text.specs.Chunks.{with_large}
use Rattle.script_text.specs.Printing.{with_line}
use Rattle.session_keys.specs.declared.inner.TheConstants.{APP_DATA}
use Rattle.spdm_basis.specs.declared.causes.record_fault.RecordFault.{RecordFault}
use Rattle.spdm_basis.specs.declared.causes.record_fault.RecordFault.TheVariants.{BadInnerLength, BadTag, KeySpent, Short, WrongId, WrongLength, WrongNumber}
use Rattle.spdm_grammar.specs.declared.names.message_type.TheConstants.{SPDM}

-- ---- The inner message: an SPDM message, application data, or bytes of another type.

unfoldable pub with_data : List ℕ → (bytes : List ℕ) → List ℕ
with_data text bytes = with_line text (codes "  data" ∷ decimal (length bytes) ∷ codes "bytes" ∷ []) ++ fields_text [] bytes

abbrev pub with_inner : List ℕ → (owner : Bool) → (inner : List ℕ) → List ℕ
with_inner text owner [] = text
with_inner text owner (type ∷ message) =
    if type == SPDM then with_clear (with_line text (type_words type (codes "SPDM"))) owner message
    else (if type == APP_DATA then with_data (with_line text (type_words type (codes "application"))) message
    else with_line text (type_words type (codes "other")) ++ fields_text [] message)

-- ---- Under which keys it opens, or why it does not.

abbrev pub keys_words : RecordKeys → List (List ℕ)
keys_words Handshake = codes "  opened" ∷ codes "handshake" ∷ []
keys_words (Data epoch) = codes "  opened" ∷ codes "data" ∷ codes "updates" ∷ decimal epoch ∷ []

abbrev pub record_fault_word : RecordFault → List ℕ
record_fault_word Short = codes "short"
record_fault_word WrongId = codes "wrong-id"
record_fault_word WrongNumber = codes "wrong-number"
record_fault_word WrongLength = codes "wrong-length"
record_fault_word BadTag = codes "bad-tag"
record_fault_word BadInnerLength = codes "bad-inner-length"
record_fault_word KeySpent = codes "key-spent"

abbrev pub closed_words : (why : List ℕ) → List (List ℕ)
closed_words why = codes "  unopened" ∷ why ∷ []

abbrev pub padding_words : (padding : ℕ) → List (List ℕ)
padding_words padding = codes "  padding" ∷ decimal padding ∷ codes "bytes" ∷ []

-- With the tag owner bit the inner message is a request. Behind it stands what it does to a large message.
abbrev pub with_seen : List ℕ → (owner : Bool) → (inside : Large) → Seen → List ℕ
with_seen text owner inside NoRecord = text
with_seen text owner inside NoSession = with_line text (closed_words (codes "no-session"))
with_seen text owner inside (Closed fault) = with_line text (closed_words (record_fault_word fault))
with_seen text owner inside (Open keys padding inner) = with_large (with_inner (with_line (with_line text (keys_words keys)) (padding_words padding)) owner inner) owner inside
