-- Bodies as members of JSON: messages in the clear with their fields, records, and bytes of other types. A text is given, and
-- what is written of a body stands behind it. This project's own.
use Rattle.std.specs.Prelude.{ℕ, List, [], ◌∷◌, ◌++◌, ◌==◌, codes, length, if◌then◌else◌, Bool, true, false, Result, Ok, Err}
use Rattle.std.specs.Fmt.{decimal}
use Rattle.message_fields.specs.Json.{with_name, with_next_name, with_number_member, with_string_member}
use Rattle.message_fields.specs.JsonFields.{with_fields}
use Rattle.message_fields.specs.Tables.{record_fields, request_fields, response_fields}
use Rattle.message_fields.specs.declared.field.Field.{Field}
use Rattle.packet_text.specs.Readings.{request_hash, response_lengths}
use Rattle.packet_text.specs.declared.readings.Lengths.{Lengths}
use Rattle.spdm_grammar.specs.Message.{RequestMessage, ResponseMessage}
use Rattle.spdm_grammar.specs.Requests.{request_reading}
use Rattle.spdm_grammar.specs.Responses.{response_reading}
use Rattle.spdm_grammar.specs.declared.messages.malformed.Malformed.{Malformed}
use Rattle.spdm_grammar.specs.declared.names.message_type.TheConstants.{SECURED, SPDM}
use Rattle.trace_text.specs.OtherLines.{part_word, request_name, response_name}
use Rattle.trace_text.specs.Spelling.{with_word}

-- The member `fields`.
abbrev pub with_fields_member : List ℕ → List Field → List ℕ → List ℕ
with_fields_member text fields bytes = with_fields (with_next_name text (codes "fields")) fields bytes

-- A message by its name, its length and its fields.
abbrev pub with_json_message : List ℕ → (name message : List ℕ) → List Field → List ℕ
with_json_message text name message fields =
    with_fields_member (with_number_member (with_string_member text (codes "message") name) (codes "length") (length message)) fields message

-- Bytes that are none, by the part and the place of their first fault.
abbrev pub with_json_malformed : List ℕ → List ℕ → Malformed → List ℕ
with_json_malformed text message m =
    with_fields_member (with_number_member (with_string_member text (codes "malformed") (part_word m.what)) (codes "at") m.at) [] message

abbrev pub with_json_request : List ℕ → List ℕ → Result RequestMessage Malformed → List ℕ
with_json_request text message (Ok request) = with_json_message text (request_name request) message (request_fields request)
with_json_request text message (Err malformed) = with_json_malformed text message malformed

abbrev pub with_json_response : List ℕ → List ℕ → Result ResponseMessage Malformed → List ℕ
with_json_response text message (Ok response) = with_json_message text (response_name response) message (response_fields response)
with_json_response text message (Err malformed) = with_json_malformed text message malformed

-- A response that is read so.
abbrev pub with_json_response_by : List ℕ → List ℕ → Lengths → List ℕ
with_json_response_by text message l = with_json_response text message (response_reading l.hash_len l.has_summary message)

-- A message in the clear. With the tag owner bit it is a request.
abbrev pub with_json_clear : List ℕ → (owner : Bool) → List ℕ → List ℕ
with_json_clear text true message = with_json_request text message (request_reading (request_hash message) message)
with_json_clear text false message = with_json_response_by text message (response_lengths message)

-- The type of a body, with its word.
abbrev pub with_json_type : List ℕ → ℕ → List ℕ → List ℕ
with_json_type text type word =
    with_string_member (with_word (with_name (with_next_name text (codes "body") ++ 32 ∷ 123 ∷ []) (codes "type")) (decimal type)) (codes "kind") word

-- The members of a body of a type: the type, and then a message in the clear, a record, or bytes of another type.
unfoldable pub with_json_typed : List ℕ → (owner : Bool) → (type : ℕ) → List ℕ → List ℕ
with_json_typed text owner type message =
    if type == SPDM then with_json_clear (with_json_type text type (codes "SPDM")) owner message
    else (if type == SECURED then with_fields_member (with_json_type text type (codes "secured")) (record_fields (length message)) message
    else with_fields_member (with_json_type text type (codes "other")) [] message)

-- A whole body; one without bytes has none.
abbrev pub with_json_body : List ℕ → (owner : Bool) → List ℕ → List ℕ
with_json_body text owner [] = text
with_json_body text owner (type ∷ message) = with_json_typed text owner type message ++ 125 ∷ []
