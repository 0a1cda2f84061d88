-- The fields of a message, or of a record, take all of its bytes: none is left over, and no field is cut short. This
-- project's own.
use Rattle.std.specs.Prelude.{◌≡◌, ◌≤◌, ◌+◌, ℕ, List, [], ◌∷◌, length, Bool}
use Rattle.spdm_grammar.specs.Message.{RequestMessage, ResponseMessage}
use Rattle.spdm_grammar.specs.Requests.{IsRequestSpelling}
use Rattle.spdm_grammar.specs.Responses.{IsResponseSpelling}
use Rattle.message_fields.specs.Tables.{record_fields, request_fields, response_fields}
use Rattle.message_fields.specs.declared.field.Field.{Field}

-- How many bytes fields take.
abbrev pub size_of : List Field → ℕ
size_of [] = 0
size_of (f ∷ fields) = f.size + size_of fields

-- Of bytes that encode a request, whatever the length of a hash.
abbrev pub RequestsAreCovered : Type 0
RequestsAreCovered = (hash_len : ℕ) (request : RequestMessage) (bytes : List ℕ) → IsRequestSpelling hash_len request bytes → size_of (request_fields request) ≡ length bytes

-- Of bytes that encode a response, whatever the length of a hash, and with a measurement summary hash or without.
abbrev pub ResponsesAreCovered : Type 0
ResponsesAreCovered =
    (hash_len : ℕ) (has_summary : Bool) (response : ResponseMessage) (bytes : List ℕ) → IsResponseSpelling hash_len has_summary response bytes → size_of (response_fields response) ≡ length bytes

-- Of so many bytes of a record.
abbrev pub RecordsAreCovered : Type 0
RecordsAreCovered = (count : ℕ) → 24 ≤ count → size_of (record_fields count) ≡ count
