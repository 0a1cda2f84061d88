-- Bodies in words: messages in the clear with their fields, records, and bytes of other types. A text is given, and what is
-- written of a body stands behind it. This project's own.
use Rattle.std.specs.Prelude.{ℕ, List, [], ◌∷◌, ◌++◌, ◌==◌, codes, length, if◌then◌else◌, Bool, true, false, Result, Ok, Err}
use Rattle.message_fields.specs.Tables.{record_fields, request_fields, response_fields}
use Rattle.message_fields.specs.Texts.{fields_text}
use Rattle.script_text.specs.Printing.{with_line}
use Rattle.spdm_grammar.specs.Message.{RequestMessage, ResponseMessage}
use Rattle.spdm_grammar.specs.Requests.{request_reading}
use Rattle.spdm_grammar.specs.Responses.{response_reading}
use Rattle.spdm_grammar.specs.declared.messages.malformed.Malformed.{Malformed}
use Rattle.spdm_grammar.specs.declared.names.message_type.TheConstants.{SECURED, SPDM}
use Rattle.trace_text.specs.OtherLines.{malformed_text, message_text, request_name, response_name}
use Rattle.trace_text.specs.Spelling.{hex_word}
use Rattle.packet_text.specs.Readings.{request_hash, response_lengths}
use Rattle.packet_text.specs.declared.readings.Lengths.{Lengths}

-- A message that was read by its name, its length and its fields; what is none, by its first fault and its bytes.
abbrev pub with_request : List ℕ → List ℕ → Result RequestMessage Malformed → List ℕ
with_request text message (Ok request) = ((text ++ codes "  ") ++ message_text (request_name request) (length message)) ++ fields_text (request_fields request) message
with_request text message (Err malformed) = ((text ++ codes "  ") ++ malformed_text malformed) ++ fields_text [] message

abbrev pub with_response : List ℕ → List ℕ → Result ResponseMessage Malformed → List ℕ
with_response text message (Ok response) = ((text ++ codes "  ") ++ message_text (response_name response) (length message)) ++ fields_text (response_fields response) message
with_response text message (Err malformed) = ((text ++ codes "  ") ++ malformed_text malformed) ++ fields_text [] message

-- A response that is read so.
abbrev pub with_response_by : List ℕ → List ℕ → Lengths → List ℕ
with_response_by text message l = with_response text message (response_reading l.hash_len l.has_summary message)

-- A message in the clear. With the tag owner bit it is a request.
abbrev pub with_clear : List ℕ → (owner : Bool) → List ℕ → List ℕ
with_clear text true message = with_request text message (request_reading (request_hash message) message)
with_clear text false message = with_response_by text message (response_lengths message)

-- The type of a body, with its word.
abbrev pub type_words : ℕ → List ℕ → List (List ℕ)
type_words type word = codes "  type" ∷ hex_word (type ∷ []) ∷ word ∷ []

-- A whole body: its type, and then a message in the clear, a record, or bytes of another type.
abbrev pub with_body : List ℕ → (owner : Bool) → List ℕ → List ℕ
with_body text owner [] = text
with_body text owner (type ∷ message) =
    if type == SPDM then with_clear (with_line text (type_words type (codes "SPDM"))) owner message
    else (if type == SECURED then with_line text (type_words type (codes "secured")) ++ fields_text (record_fields (length message)) message
    else with_line text (type_words type (codes "other")) ++ fields_text [] message)
