-- Records as members of JSON. A text is given, and what is written of a record stands behind it. This project's own.
use Rattle.std.specs.Prelude.{ℕ, List, [], ◌∷◌, ◌++◌, ◌==◌, codes, length, if◌then◌else◌, Bool}
use Rattle.capture_bodies.specs.Collecting.{Large}
use Rattle.capture_records.specs.Showing.{Seen}
use Rattle.capture_records.specs.Showing.Seen.{Closed, NoRecord, NoSession, Open}
use Rattle.capture_records.specs.declared.opening.RecordKeys.{RecordKeys}
use Rattle.capture_records.specs.declared.opening.RecordKeys.TheVariants.{Data, Handshake}
use Rattle.message_fields.specs.Json.{with_name, with_next_name, with_number_member, with_string, with_string_member}
use Rattle.packet_text.specs.JsonBodies.{with_fields_member, with_json_clear}
use Rattle.packet_text.specs.JsonChunks.{with_counted, with_json_large}
use Rattle.packet_text.specs.Records.{record_fault_word}
use Rattle.session_keys.specs.declared.inner.TheConstants.{APP_DATA}
use Rattle.spdm_grammar.specs.declared.names.message_type.TheConstants.{SPDM}

-- ---- The inner message.

abbrev pub with_json_inner_type : List ℕ → ℕ → List ℕ → List ℕ
with_json_inner_type text type word = with_string_member (with_counted text (codes "inner") (codes "type") type) (codes "kind") word

-- Application data, with its length.
abbrev pub with_json_data : List ℕ → (bytes : List ℕ) → List ℕ
with_json_data text bytes = with_fields_member (with_number_member text (codes "length") (length bytes)) [] bytes

unfoldable pub with_json_inner_typed : List ℕ → (owner : Bool) → (type : ℕ) → List ℕ → List ℕ
with_json_inner_typed text owner type message =
    if type == SPDM then with_json_clear (with_json_inner_type text type (codes "SPDM")) owner message
    else (if type == APP_DATA then with_json_data (with_json_inner_type text type (codes "application")) message
    else with_fields_member (with_json_inner_type text type (codes "other")) [] message)

abbrev pub with_json_inner : List ℕ → (owner : Bool) → (inner : List ℕ) → List ℕ
with_json_inner text owner [] = text
with_json_inner text owner (type ∷ message) = with_json_inner_typed text owner type message ++ 125 ∷ []

-- ---- Under which keys it opens, or why it does not.

-- The begin of the object of a record, with its first member.
abbrev pub with_record : List ℕ → (first word : List ℕ) → List ℕ
with_record text first word = with_string (with_name (with_next_name text (codes "record") ++ 32 ∷ 123 ∷ []) first) word

abbrev pub with_json_keys : List ℕ → RecordKeys → List ℕ
with_json_keys text Handshake = with_record text (codes "opened") (codes "handshake")
with_json_keys text (Data epoch) = with_number_member (with_record text (codes "opened") (codes "data")) (codes "updates") epoch

abbrev pub with_json_closed : List ℕ → (why : List ℕ) → List ℕ
with_json_closed text why = with_record text (codes "unopened") why ++ 125 ∷ []

abbrev pub with_json_seen : List ℕ → (owner : Bool) → (inside : Large) → Seen → List ℕ
with_json_seen text owner inside NoRecord = text
with_json_seen text owner inside NoSession = with_json_closed text (codes "no-session")
with_json_seen text owner inside (Closed fault) = with_json_closed text (record_fault_word fault)
with_json_seen text owner inside (Open keys padding inner) =
    with_json_large (with_json_inner (with_number_member (with_json_keys text keys) (codes "padding") padding) owner inner) owner inside ++ 125 ∷ []
