-- The rows of a capture: an arrow for each packet. This project's own.
use Rattle.std.specs.Prelude.{ℕ, List, [], ◌∷◌, ◌+◌, ◌-◌, ◌%◌, ◌==◌, ◌&&◌, min, codes, length, take, slice_index, if◌then◌else◌, Bool, true, false, Option, Some, None, Result, Ok, Err}
use Rattle.std.specs.List.{position_from}
use Rattle.mctp_framing.specs.Packet.{PacketFields, parsed}
use Rattle.packet_text.specs.Readings.{request_hash, response_lengths}
use Rattle.packet_text.specs.declared.readings.Lengths.{Lengths}
use Rattle.script_text.specs.declared.configuration.config.ReqPart.{ReqPart}
use Rattle.script_text.specs.declared.configuration.config.ScriptConfig.{ScriptConfig}
use Rattle.sequence_picture.specs.Picture.{picture_text}
use Rattle.sequence_picture.specs.declared.form.Form.{Form}
use Rattle.sequence_picture.specs.declared.rows.Arrow.{Arrow}
use Rattle.sequence_picture.specs.declared.rows.Colour.{Colour}
use Rattle.sequence_picture.specs.declared.rows.Colour.TheVariants.{Blue, Green, Orange, Purple}
use Rattle.sequence_picture.specs.declared.rows.Fate.{Fate}
use Rattle.sequence_picture.specs.declared.rows.Fate.TheVariants.{Arrives}
use Rattle.sequence_picture.specs.declared.rows.Row.{Row}
use Rattle.sequence_picture.specs.declared.rows.Row.TheVariants as row
use Rattle.sequence_picture.specs.declared.rows.Style.{Style}
use Rattle.sequence_picture.specs.declared.rows.Style.TheVariants.{Message, Part, Record, Unread}
use Rattle.spdm_basis.specs.declared.PacketFault.{PacketFault}
use Rattle.spdm_basis.specs.declared.PacketFault.TheVariants.{Short, WrongVersion}
use Rattle.spdm_grammar.specs.Message.{RequestMessage, ResponseMessage}
use Rattle.spdm_grammar.specs.Requests.{request_reading}
use Rattle.spdm_grammar.specs.Responses.{response_reading}
use Rattle.spdm_grammar.specs.declared.messages.malformed.Malformed.{Malformed}
use Rattle.spdm_grammar.specs.declared.names.message_type.TheConstants.{SECURED, SPDM}
use Rattle.trace_text.specs.OtherLines.{malformed_text, message_text, request_name, response_name}
use Rattle.trace_text.specs.Spelling.{hex_word, with_word}
use Rattle.std.specs.Fmt.{decimal}

-- ---- The ends of an arrow.

-- A number of ends, as a picture counts them; a configuration has at most eight requesters.
abbrev pub few : ℕ → ℕ
few n = min 200 n

abbrev pub requesters_of : ScriptConfig → ℕ
requesters_of config = few (length config.requesters)

-- The requester has this endpoint.
abbrev pub has_eid : ℕ → ReqPart → Bool
has_eid eid q = q.eid.number == eid

-- The requesters in order, then the responder, and then any other end.
abbrev pub place_or_other : ScriptConfig → Option ℕ → ℕ
place_or_other config None = requesters_of config + 1
place_or_other config (Some place) = few place

abbrev pub end_of : ScriptConfig → (eid : ℕ) → ℕ
end_of config eid =
    if config.responder.eid.number == eid then requesters_of config
    else place_or_other config (position_from (has_eid eid) 0 config.requesters)

-- ---- What a packet has: its style and its label.

pub record Content : Type 0 where
  pub style : Style
  pub label : List ℕ

abbrev pub content : Style → List ℕ → Content
content style label = record { style = style; label = label }

-- A line without its line feed.
abbrev pub without_end : List ℕ → List ℕ
without_end line = take (length line - 1) line

-- A message in the clear: its name and its length; or where it is at fault.
abbrev pub of_request : (length : ℕ) → Result RequestMessage Malformed → Content
of_request length (Ok request) = content Message (without_end (message_text (request_name request) length))
of_request length (Err malformed) = content Unread (without_end (malformed_text malformed))

abbrev pub of_response : (length : ℕ) → Result ResponseMessage Malformed → Content
of_response length (Ok response) = content Message (without_end (message_text (response_name response) length))
of_response length (Err malformed) = content Unread (without_end (malformed_text malformed))

abbrev pub by_lengths : List ℕ → Lengths → Content
by_lengths message l = of_response (length message) (response_reading l.hash_len l.has_summary message)

abbrev pub of_clear : (owner : Bool) → List ℕ → Content
of_clear true message = of_request (length message) (request_reading (request_hash message) message)
of_clear false message = by_lengths message (response_lengths message)

-- A record: the id of its session as four bytes, and its length. Sessions whose ids begin alike have one colour.
abbrev pub colour_of : ℕ → Colour
colour_of n =
    if n == 0 then Blue
    else (if n == 1 then Green
    else (if n == 2 then Orange
    else Purple))

abbrev pub of_record : List ℕ → Content
of_record message =
    content (Record (colour_of (slice_index message 0 % 4))) (with_word (with_word (codes "record") (hex_word (take 4 message))) (decimal (length message)))

-- Bytes with a word for what they are, and their number.
abbrev pub counted : Style → (word : List ℕ) → (length : ℕ) → Content
counted style word length = content style (with_word word (decimal length))

abbrev pub of_body : (owner : Bool) → List ℕ → Content
of_body owner [] = counted Unread (codes "empty") 0
of_body owner (type ∷ message) =
    if type == SPDM then of_clear owner message
    else (if type == SECURED then of_record message
    else counted Unread (codes "other") (length message))

-- A body of one packet is whole; of a longer one the packet has a part.
abbrev pub of_packet : PacketFields → Content
of_packet p =
    if p.start && p.end then of_body p.owner p.payload
    else (if p.start then counted Part (codes "first part") (length p.payload)
    else (if p.end then counted Part (codes "last part") (length p.payload)
    else counted Part (codes "part") (length p.payload)))

abbrev pub fault_word : PacketFault → List ℕ
fault_word Short = codes "short"
fault_word WrongVersion = codes "wrong-version"

-- ---- The arrow of a packet.

abbrev pub arrow_with : (number from to : ℕ) → Fate → Content → Arrow
arrow_with number from to fate c = record { number = number; from = from; to = to; style = c.style; fate = fate; label = c.label }

-- Bytes that are no packet go from no end to none.
abbrev pub arrow_by : ScriptConfig → (number : ℕ) → Fate → (packet : List ℕ) → Result PacketFields PacketFault → Arrow
arrow_by config number fate packet (Ok p) = arrow_with number (end_of config p.from) (end_of config p.to) fate (of_packet p)
arrow_by config number fate packet (Err fault) =
    arrow_with number (requesters_of config + 1) (requesters_of config + 1) fate (counted Unread (fault_word fault) (length packet))

unfoldable pub arrow_of : ScriptConfig → (number : ℕ) → Fate → (packet : List ℕ) → Arrow
arrow_of config number fate packet = arrow_by config number fate packet (parsed packet)

-- The rows of packets of which the first has this number.
abbrev pub rows_from : ScriptConfig → (number : ℕ) → List (List ℕ) → List Row
rows_from config number [] = []
rows_from config number (packet ∷ others) = row.Packet (arrow_of config number Arrives packet) ∷ rows_from config (number + 1) others

-- The picture of packets, which are counted from 1.
abbrev pub packets_picture : Form → ScriptConfig → List (List ℕ) → List ℕ
packets_picture form config packets = picture_text form (requesters_of config) (rows_from config 1 packets)
