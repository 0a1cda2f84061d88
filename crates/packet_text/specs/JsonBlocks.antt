-- Packets as JSON: an object on a line of its own for each, with what the block of the packet has. A text is given, and
-- what is written of a packet stands behind it. This project's own.
use Rattle.std.specs.Prelude.{ℕ, List, [], ◌∷◌, ◌++◌, ◌+◌, ◌==◌, nat_lt, codes, length, take, if◌then◌else◌, Option, Some, None, Result, Ok, Err}
use Rattle.std.specs.Fmt.{decimal}
use Rattle.mctp_framing.specs.Packet.{PacketFields, bit, parsed}
use Rattle.message_fields.specs.Json.{with_bytes_member, with_name, with_next_name, with_number_member, with_string, with_string_member}
use Rattle.capture_bodies.specs.Completing.{Completed}
use Rattle.capture_bodies.specs.Completing.Completed.{Body, Dropped, More}
use Rattle.capture_records.specs.Ends.{place_of}
use Rattle.packet_text.specs.Blocks.{cause_word, fault_word}
use Rattle.packet_text.specs.JsonBodies.{with_fields_member, with_json_body}
use Rattle.packet_text.specs.JsonChunks.{with_json_large}
use Rattle.packet_text.specs.JsonRecords.{with_json_seen}
use Rattle.packet_text.specs.Shown.{Contents}
use Rattle.script_text.specs.declared.configuration.config.ScriptConfig.{ScriptConfig}
use Rattle.spdm_basis.specs.declared.PacketFault.{PacketFault}
use Rattle.trace_text.specs.Spelling.{requester_word, with_word}

-- ---- Which packet it is: its number, who sends it to whom, or why it is no packet, and how many bytes it has.

-- An endpoint that is not configured, as a string.
abbrev pub with_json_eid : List ℕ → (eid : ℕ) → List ℕ
with_json_eid text eid = with_word ((text ++ 32 ∷ 34 ∷ []) ++ codes "eid") (decimal eid) ++ 34 ∷ []

-- A requester by its place, counted from 0; another end by its endpoint ID.
abbrev pub with_json_requester : List ℕ → (eid : ℕ) → Option ℕ → List ℕ
with_json_requester text eid None = with_json_eid text eid
with_json_requester text eid (Some place) = if nat_lt place 255 then with_string text (requester_word (place + 1)) else with_json_eid text eid

-- An end: `r`, a requester, or an endpoint that is not configured.
abbrev pub with_json_end : List ℕ → ScriptConfig → (eid : ℕ) → List ℕ
with_json_end text config eid =
    if config.responder.eid.number == eid then with_string text (codes "r")
    else with_json_requester text eid (place_of config eid)

abbrev pub with_json_route : List ℕ → ScriptConfig → Result PacketFields PacketFault → List ℕ
with_json_route text config (Err fault) = with_string_member text (codes "fault") (fault_word fault)
with_json_route text config (Ok p) = with_json_end (with_next_name (with_json_end (with_next_name text (codes "from")) config p.from) (codes "to")) config p.to

abbrev pub with_json_head : List ℕ → ScriptConfig → (number : ℕ) → (packet : List ℕ) → List ℕ
with_json_head text config number packet =
    with_number_member (with_json_route (with_word (with_name (text ++ 123 ∷ []) (codes "packet")) (decimal number)) config (parsed packet)) (codes "length") (length packet)

-- ---- The header: its fields, and its four bytes.

abbrev pub with_json_header : List ℕ → List ℕ → PacketFields → List ℕ
with_json_header text header p =
    let ends = with_number_member (with_word (with_name (with_next_name text (codes "header") ++ 32 ∷ 123 ∷ []) (codes "destination")) (decimal p.to)) (codes "source") p.from in
    let marks = with_number_member (with_number_member ends (codes "SOM") (bit p.start)) (codes "EOM") (bit p.end) in
    let tagged = with_number_member (with_number_member (with_number_member marks (codes "sequence") p.sequence) (codes "TO") (bit p.owner)) (codes "tag") p.tag in
    with_bytes_member tagged (codes "bytes") header ++ 125 ∷ []

-- ---- What follows the header.

-- The payload of a packet that is not alone in its body.
abbrev pub with_json_part : List ℕ → PacketFields → List ℕ
with_json_part text p = with_bytes_member text (codes "part") p.payload

-- What it completes: a body that it has alone, or one that is gathered; a part of one; or nothing, since it is dropped.
abbrev pub with_json_completed : List ℕ → PacketFields → Completed → List ℕ
with_json_completed text p (Body owner body) = if p.start then with_json_body text owner body else with_json_body (with_json_part text p) owner body
with_json_completed text p More = with_json_part text p
with_json_completed text p (Dropped cause) = with_string_member (with_json_part text p) (codes "dropped") (cause_word cause)

abbrev pub with_json_payload : List ℕ → PacketFields → Contents → List ℕ
with_json_payload text p held = with_json_seen (with_json_large (with_json_completed text p held.done) p.owner held.large) p.owner held.inside held.seen

abbrev pub with_json_inside : List ℕ → List ℕ → Result PacketFields PacketFault → Contents → List ℕ
with_json_inside text packet (Err fault) held = with_fields_member text [] packet
with_json_inside text packet (Ok p) held = with_json_payload (with_json_header text (take 4 packet) p) p held

-- ---- The object, with a line feed behind it, of a packet with these contents.

unfoldable pub object_of : ScriptConfig → (number : ℕ) → List ℕ → Contents → List ℕ
object_of config number packet held =
    (with_json_inside (with_json_head [] config number packet) packet (parsed packet) held ++ 125 ∷ []) ++ 10 ∷ []
