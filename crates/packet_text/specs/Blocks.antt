-- Packets in words: a block of lines for each. A text is given, and what is written of a packet stands behind it. This
-- project's own.
use Rattle.std.specs.Prelude.{ℕ, List, [], ◌∷◌, ◌++◌, ◌+◌, ◌==◌, nat_lt, codes, length, take, if◌then◌else◌, Bool, Option, Some, None, Result, Ok, Err}
use Rattle.std.specs.Fmt.{decimal}
use Rattle.mctp_framing.specs.Packet.{PacketFields, bit, parsed}
use Rattle.message_fields.specs.Texts.{fields_text}
use Rattle.capture_bodies.specs.Completing.{Completed}
use Rattle.capture_bodies.specs.Completing.Completed.{Body, Dropped, More}
use Rattle.capture_records.specs.Ends.{place_of}
use Rattle.packet_text.specs.Bodies.{with_body}
use Rattle.packet_text.specs.Chunks.{with_large}
use Rattle.packet_text.specs.Records.{with_seen}
use Rattle.packet_text.specs.Shown.{Contents}
use Rattle.script_text.specs.Printing.{with_line}
use Rattle.script_text.specs.declared.configuration.config.ScriptConfig.{ScriptConfig}
use Rattle.spdm_basis.specs.declared.DropCause.{DropCause}
use Rattle.spdm_basis.specs.declared.DropCause.TheVariants.{NotOurs, NoStart, WrongSequence, WrongSize, TooLong, IntegritySet}
use Rattle.spdm_basis.specs.declared.PacketFault.{PacketFault}
use Rattle.spdm_basis.specs.declared.PacketFault.TheVariants.{Short, WrongVersion}
use Rattle.trace_text.specs.Spelling.{hex_word, requester_word, with_word}

-- ---- The first line.

-- A requester by its place, counted from 0; another end by its endpoint ID.
abbrev pub with_requester : List ℕ → (eid : ℕ) → Option ℕ → List ℕ
with_requester text eid None = with_word (with_word text (codes "eid")) (decimal eid)
with_requester text eid (Some place) = if nat_lt place 255 then with_word text (requester_word (place + 1)) else with_word (with_word text (codes "eid")) (decimal eid)

-- An end: `r`, a requester, or an endpoint that is not configured.
abbrev pub with_end : List ℕ → ScriptConfig → (eid : ℕ) → List ℕ
with_end text config eid =
    if config.responder.eid.number == eid then with_word text (codes "r")
    else with_requester text eid (place_of config eid)

abbrev pub fault_word : PacketFault → List ℕ
fault_word Short = codes "short"
fault_word WrongVersion = codes "wrong-version"

-- Who sends the packet to whom; of bytes that are no packet, why they are none.
abbrev pub with_route : List ℕ → ScriptConfig → Result PacketFields PacketFault → List ℕ
with_route text config (Err fault) = with_word text (fault_word fault)
with_route text config (Ok p) = with_end (with_word (with_end (with_word text (codes "from")) config p.from) (codes "to")) config p.to

-- The number of the packet, who sends it to whom, and how many bytes it has.
abbrev pub with_head : List ℕ → ScriptConfig → (number : ℕ) → (packet : List ℕ) → List ℕ
with_head text config number packet =
    with_word (with_word (with_route (with_word (text ++ codes "packet") (decimal number)) config (parsed packet)) (decimal (length packet))) (codes "bytes") ++ 10 ∷ []

-- ---- The header: its four bytes and its fields.

abbrev pub header_words : List ℕ → PacketFields → List (List ℕ)
header_words header p =
    codes "  header"
    ∷ hex_word header
    ∷ codes "destination"
    ∷ decimal p.to
    ∷ codes "source"
    ∷ decimal p.from
    ∷ codes "SOM"
    ∷ decimal (bit p.start)
    ∷ codes "EOM"
    ∷ decimal (bit p.end)
    ∷ codes "sequence"
    ∷ decimal p.sequence
    ∷ codes "TO"
    ∷ decimal (bit p.owner)
    ∷ codes "tag"
    ∷ decimal p.tag
    ∷ []

-- ---- What follows the header.

-- The payload of a packet that is not alone in its body.
abbrev pub with_part : List ℕ → PacketFields → List ℕ
with_part text p = with_line text (codes "  part" ∷ hex_word p.payload ∷ [])

-- A body that it completes, behind its own part and the length of all.
abbrev pub with_gathered : List ℕ → PacketFields → (owner : Bool) → List ℕ → List ℕ
with_gathered text p owner body = with_body (with_line (with_part text p) (codes "  body" ∷ decimal (length body) ∷ codes "bytes" ∷ [])) owner body

-- Why a packet is dropped.
abbrev pub cause_word : DropCause → List ℕ
cause_word NotOurs = codes "not-ours"
cause_word NoStart = codes "no-start"
cause_word WrongSequence = codes "wrong-sequence"
cause_word WrongSize = codes "wrong-size"
cause_word TooLong = codes "too-long"
cause_word IntegritySet = codes "integrity-set"

-- What it completes: a body that it has alone, or one that is gathered; a part of one; or nothing, since it is dropped.
abbrev pub with_completed : List ℕ → PacketFields → Completed → List ℕ
with_completed text p (Body owner body) = if p.start then with_body text owner body else with_gathered text p owner body
with_completed text p More = with_part text p
with_completed text p (Dropped cause) = with_line (with_part text p) (codes "  dropped" ∷ cause_word cause ∷ [])

abbrev pub with_payload : List ℕ → PacketFields → Contents → List ℕ
with_payload text p held = with_seen (with_large (with_completed text p held.done) p.owner held.large) p.owner held.inside held.seen

abbrev pub with_inside : List ℕ → List ℕ → Result PacketFields PacketFault → Contents → List ℕ
with_inside text packet (Err fault) held = text ++ fields_text [] packet
with_inside text packet (Ok p) held = with_payload (with_line text (header_words (take 4 packet) p)) p held

-- ---- A block, with an empty line behind it, of a packet with these contents.

unfoldable pub block_of : ScriptConfig → (number : ℕ) → List ℕ → Contents → List ℕ
block_of config number packet held = with_inside (with_head [] config number packet) packet (parsed packet) held ++ 10 ∷ []
