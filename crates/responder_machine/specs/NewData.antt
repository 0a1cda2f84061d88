-- The application message that a packet would bring as one that is new, told before the packet is taken. This project's
-- own.
use Rattle.std.specs.Prelude.{◌==◌, ◌&&◌, ◌+◌, not, nat_lt, ℕ, List, length, slice_index, drop, if◌then◌else◌, Bool, Option, Some, None, is_none, Result, Ok, Err}
use Rattle.std.specs.Option.{option_map}
use Rattle.mctp_framing.specs.Cutting.{RouteFields}
use Rattle.mctp_framing.specs.Gathering.{Gathered}
use Rattle.mctp_framing.specs.Gathering.Gathered.{Whole, More, Dropped}
use Rattle.mctp_framing.specs.Packet.{PacketFields, parsed}
use Rattle.spdm_basis.specs.declared.PacketFault.{PacketFault}
use Rattle.spdm_basis.specs.declared.values.session_id.SessionId.{SessionId}
use Rattle.spdm_grammar.specs.declared.told.phase.Stage.{Stage}
use Rattle.spdm_grammar.specs.declared.names.TheConstants.{MAX_APP_DATA_LEN}
use Rattle.spdm_grammar.specs.declared.names.message_type.TheConstants.{SECURED}
use Rattle.spdm_machine.specs.Packets.{body_type, gathered_from}
use Rattle.responder_machine.specs.Heard.{record_id}
use Rattle.responder_machine.specs.History.{History, ended_of}
use Rattle.responder_machine.specs.Records.{opened, opening_fault}
use Rattle.responder_machine.specs.Responder.{is_open, repeats}
use Rattle.responder_machine.specs.Responding.{Connection, Responding, connection_of, is_worn}
use Rattle.responder_machine.specs.Session.{Events, id_in_record, is_live, last_of, session_of, stage_of}

-- ---- In a session.

-- An inner message is application data that a session takes: it is of type 1, the stage is Open, and behind the type
-- stand at most 1,024 bytes.
abbrev pub is_app_data : Stage → (inner : List ℕ) → Bool
is_app_data stage inner = slice_index inner 0 == 1 && is_open stage && not (nat_lt (MAX_APP_DATA_LEN + 1) (length inner))

-- A record would bring application data to a session: there is one, the record is not the last one that it took, it
-- opens as the next one, and its inner message is application data that the session takes.
abbrev pub brings_data : (psk : List ℕ) → Events → (sealed : List ℕ) → Bool
brings_data psk s sealed =
    is_live s && not (repeats (last_of s) sealed) && is_none (opening_fault psk s sealed) && is_app_data (stage_of s) (opened psk s sealed)

-- The application data that it would bring; none where it would bring none.
abbrev pub new_data : (psk : List ℕ) → Events → (sealed : List ℕ) → Option (List ℕ)
new_data psk s sealed = if brings_data psk s sealed then Some (drop 1 (opened psk s sealed)) else None

-- ---- At a connection.

-- The application data that a record would bring, by the session that it names. The last record of the one ended
-- session comes first: it is a repeat.
abbrev pub new_data_in : (psk : List ℕ) → History → (sealed : List ℕ) → Option (List ℕ)
new_data_in psk h sealed = if repeats (ended_of h) sealed then None else new_data psk (session_of (id_in_record sealed) h) sealed

-- An application message: its session and its data.
abbrev pub Message : Type 0
Message = SessionId × List ℕ

-- What a whole body would bring: it has to be a request, and a record.
abbrev pub body_brings : Connection → RouteFields → (body : List ℕ) → Option Message
body_brings c route body =
    if route.owner && body_type body == SECURED then option_map (λ (bytes : List ℕ). (record_id (drop 1 body), bytes)) (new_data_in c.setup.psk c.history (drop 1 body))
    else None

-- What a packet would bring, by what it leads to where bodies are gathered.
abbrev pub gathered_brings : Connection → Gathered → Option Message
gathered_brings c (Whole route body) = body_brings c route body
gathered_brings c More = None
gathered_brings c (Dropped cause) = None

-- ---- At a responder.

-- A packet from an endpoint with or without a connection.
abbrev pub brings_from : Responding → PacketFields → Option Connection → Option Message
brings_from r fields None = None
brings_from r fields (Some c) = gathered_brings c (gathered_from c.setup.eid c.setup.peer r.given fields)

-- A packet has to be for the responder.
abbrev pub brings_packet : Responding → Result PacketFields PacketFault → Option Message
brings_packet r (Err fault) = None
brings_packet r (Ok fields) = if fields.to == r.part.eid then brings_from r fields (connection_of fields.from r.connections) else None

-- The application message that the responder would take as one that is new, if it were given this packet. A worn
-- responder takes none.
unfoldable pub brings : Responding → (packet : List ℕ) → Option Message
brings r packet = if is_worn r then None else brings_packet r (parsed packet)
