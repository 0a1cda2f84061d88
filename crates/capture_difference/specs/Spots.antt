-- Where in a packet a byte stands, in words: in its header, in the type of its body, in a field of a record or of a message
-- in the clear that it carries alone, or elsewhere in its payload. This project's own.
use Rattle.std.specs.Prelude.{ℕ, List, [], ◌∷◌, ◌-◌, ◌==◌, ◌&&◌, nat_lt, length, codes, if◌then◌else◌, Bool, true, false, Result, Ok, Err}
use Rattle.capture_difference.specs.declared.spots.Spot.{Spot}
use Rattle.capture_difference.specs.declared.spots.Spot.TheVariants.{BodyType, Header, InField, Payload}
use Rattle.message_fields.specs.Names.{name_text}
use Rattle.message_fields.specs.Tables.{record_fields, request_fields, response_fields}
use Rattle.message_fields.specs.declared.field.Field.{Field}
use Rattle.mctp_framing.specs.Packet.{PacketFields, parsed}
use Rattle.packet_text.specs.Readings.{request_hash, response_lengths}
use Rattle.packet_text.specs.declared.readings.Lengths.{Lengths}
use Rattle.spdm_basis.specs.declared.PacketFault.{PacketFault}
use Rattle.spdm_grammar.specs.Message.{RequestMessage, ResponseMessage}
use Rattle.spdm_grammar.specs.Requests.{request_reading}
use Rattle.spdm_grammar.specs.Responses.{response_reading}
use Rattle.spdm_grammar.specs.declared.messages.malformed.Malformed.{Malformed}
use Rattle.spdm_grammar.specs.declared.names.message_type.TheConstants.{SECURED, SPDM}

-- The field in which a byte stands, counted from 0, where one of these has it.
abbrev pub spot_in : List Field → (place : ℕ) → Spot
spot_in [] place = Payload
spot_in (f ∷ fields) place = if nat_lt place f.size then InField f.name else spot_in fields (place - f.size)

-- In a message, read as `packets` reads it.
abbrev pub request_spot : Result RequestMessage Malformed → (place : ℕ) → Spot
request_spot (Ok request) place = spot_in (request_fields request) place
request_spot (Err malformed) place = Payload

abbrev pub response_spot : Result ResponseMessage Malformed → (place : ℕ) → Spot
response_spot (Ok response) place = spot_in (response_fields response) place
response_spot (Err malformed) place = Payload

abbrev pub response_spot_by : List ℕ → Lengths → (place : ℕ) → Spot
response_spot_by message l place = response_spot (response_reading l.hash_len l.has_summary message) place

abbrev pub message_spot : (owner : Bool) → List ℕ → (place : ℕ) → Spot
message_spot true message place = request_spot (request_reading (request_hash message) message) place
message_spot false message place = response_spot_by message (response_lengths message) place

-- In a body that is whole in its packet.
abbrev pub body_spot : (owner : Bool) → List ℕ → (place : ℕ) → Spot
body_spot owner [] place = Payload
body_spot owner (type ∷ message) place =
    if place == 0 then BodyType
    else (if type == SPDM then message_spot owner message (place - 1)
    else (if type == SECURED then spot_in (record_fields (length message)) (place - 1)
    else Payload))

abbrev pub payload_spot : Result PacketFields PacketFault → (place : ℕ) → Spot
payload_spot (Ok p) place = if p.start && p.end then body_spot p.owner p.payload place else Payload
payload_spot (Err fault) place = Payload

-- In a packet: its header has four bytes.
abbrev pub spot_at : (packet : List ℕ) → (place : ℕ) → Spot
spot_at packet place = if nat_lt place 4 then Header else payload_spot (parsed packet) (place - 4)

abbrev pub spot_word : Spot → List ℕ
spot_word Header = codes "header"
spot_word BodyType = codes "type"
spot_word (InField name) = name_text name
spot_word Payload = codes "payload"
