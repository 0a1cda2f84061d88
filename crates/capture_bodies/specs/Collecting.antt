-- Large messages of a capture: the chunks that went in the clear from one end to another, and what each of them leads to
-- (DSP0274, "CHUNK_SEND" and "CHUNK_RESPONSE"). Packets and chunks stand with the newest first. This project's own.
use Rattle.std.specs.Prelude.{◌==◌, ◌&&◌, ℕ, List, [], ◌∷◌, length, if◌then◌else◌, Bool, true, false, Option, Some, None, Result, Ok, Err}
use Rattle.chunking.specs.Collecting as collecting
use Rattle.chunking.specs.Collecting.{Collection, accepted_of, accepted_with, collected, joined, told_size, under_way}
use Rattle.mctp_framing.specs.Packet.{PacketFields, parsed}
use Rattle.spdm_basis.specs.declared.causes.faults.PacketFault.{PacketFault}
use Rattle.spdm_grammar.specs.Message.{ChunkMessage, RequestMessage, ResponseMessage}
use Rattle.spdm_grammar.specs.Message.RequestMessage.{ChunkSend}
use Rattle.spdm_grammar.specs.Message.ResponseMessage.{ChunkResponse}
use Rattle.spdm_grammar.specs.Requests.{request_reading}
use Rattle.spdm_grammar.specs.Responses.{response_reading}
use Rattle.spdm_grammar.specs.declared.ChunkFault.{ChunkFault}
use Rattle.spdm_grammar.specs.declared.messages.malformed.Malformed.{Malformed}
use Rattle.spdm_grammar.specs.declared.names.TheConstants.{MAX_MESSAGE_SIZE}
use Rattle.spdm_grammar.specs.declared.names.message_type.TheConstants.{SPDM}
use Rattle.spdm_machine.specs.Packets.{gathered_from}
use Rattle.capture_bodies.specs.Completing.{Completed, completed, completed_by, goes_between}
use Rattle.capture_bodies.specs.Completing.Completed.{Body}

-- ---- The chunk in a message, if it is one. No field of a chunk depends on the length of a hash.

abbrev pub chunk_asked : Result RequestMessage Malformed → Option ChunkMessage
chunk_asked (Ok (ChunkSend c)) = Some c
chunk_asked _ = None

abbrev pub chunk_answered : Result ResponseMessage Malformed → Option ChunkMessage
chunk_answered (Ok (ChunkResponse c)) = Some c
chunk_answered _ = None

abbrev pub chunk_in : (owner : Bool) → List ℕ → Option ChunkMessage
chunk_in true message = chunk_asked (request_reading 32 message)
chunk_in false message = chunk_answered (response_reading 32 false message)

-- The chunk in a whole body in the clear.
abbrev pub chunk_of : Completed → Option ChunkMessage
chunk_of (Body owner (type ∷ message)) = if type == SPDM then chunk_in owner message else None
chunk_of _ = None

-- ---- The chunks that went from one end to another.

abbrev pub chunk_at : (to from : ℕ) → List (List ℕ) → Result PacketFields PacketFault → Option ChunkMessage
chunk_at to from older (Ok p) = if p.to == to && p.from == from then chunk_of (completed_by (gathered_from to from older p)) else None
chunk_at to from older (Err fault) = None

abbrev pub with_chunk : Option ChunkMessage → List ChunkMessage → List ChunkMessage
with_chunk None chunks = chunks
with_chunk (Some c) chunks = c ∷ chunks

abbrev pub chunks_between : (to from : ℕ) → List (List ℕ) → List ChunkMessage
chunks_between to from [] = []
chunks_between to from (packet ∷ older) = with_chunk (chunk_at to from older (parsed packet)) (chunks_between to from older)

-- ---- What a packet does to a large message.

-- It has no chunk; with its chunk there are so many bytes of so many; the large message is whole; or the chunk is refused.
pub data Large : Type 0 where
  NoChunk : Large
  Awaiting : (held told : ℕ) → Large
  Whole : (message : List ℕ) → Large
  Refused : (fault : ChunkFault) → Large

abbrev pub large_from : Collection → List ChunkMessage → Large
large_from (collecting.Collection.Whole message) now = Whole message
large_from collecting.Collection.More now = Awaiting (length (joined now)) (told_size now)
large_from (collecting.Collection.Refused fault) now = Refused fault

abbrev pub large_by : (accepted : List ChunkMessage) → Option ChunkMessage → Large
large_by accepted None = NoChunk
large_by accepted (Some c) = large_from (collected MAX_MESSAGE_SIZE accepted c) (under_way (accepted_with MAX_MESSAGE_SIZE accepted c))

-- By the chunks that went from one end to another before it.
abbrev pub large_between : (to from : ℕ) → List (List ℕ) → Completed → Large
large_between to from older done = large_by (accepted_of MAX_MESSAGE_SIZE (chunks_between to from older)) (chunk_of done)

-- What a packet does to the large message between its two ends; between other ends nothing is collected.
abbrev pub large : (own : ℕ) → (eids : List ℕ) → List (List ℕ) → PacketFields → Large
large own eids older p = if goes_between own eids p then large_between p.to p.from older (completed own eids older p) else NoChunk

-- What bytes do; those that are no packet do nothing.
abbrev pub large_in : (own : ℕ) → (eids : List ℕ) → List (List ℕ) → Result PacketFields PacketFault → Large
large_in own eids older (Ok p) = large own eids older p
large_in own eids older (Err fault) = NoChunk
