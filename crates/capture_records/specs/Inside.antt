-- Large messages that come in records: the chunks of a requester's answers, of all its sessions, and what each leads to
-- (DSP0274, "CHUNK_RESPONSE"). CHUNK_SEND goes in no record. Packets and chunks stand with the newest first. This project's
-- own.
use Rattle.std.specs.Prelude.{◌≡◌, ◌<◌, ℕ, List, [], ◌∷◌, length, ◌==◌, if◌then◌else◌, slice_index_or, false, Option, Some, None}
use Rattle.capture_bodies.specs.Collecting.{Large, chunk_of, large_by, with_chunk}
use Rattle.capture_bodies.specs.Collecting.Large.{NoChunk}
use Rattle.capture_bodies.specs.Completing.Completed.{Body}
use Rattle.capture_records.specs.Ends.{way_in}
use Rattle.capture_records.specs.Hearing.{record_in}
use Rattle.capture_records.specs.Showing.{Seen}
use Rattle.capture_records.specs.Showing.Seen.{Open}
use Rattle.capture_records.specs.declared.ends.Way.{Way}
use Rattle.capture_records.specs.declared.inner_chunks.InnerChunks.{InnerChunks}
use Rattle.capture_records.specs.declared.inside.Inside.{Inside}
use Rattle.chunking.specs.Collecting.{accepted_of}
use Rattle.chunking.specs.Keeping.{StandsFor}
use Rattle.key_schedule.specs.declared.direction.Direction.{Direction}
use Rattle.key_schedule.specs.declared.direction.Direction.TheVariants.{Request, Response}
use Rattle.mctp_framing.specs.Packet.{parsed}
use Rattle.script_text.specs.declared.configuration.config.ScriptConfig.{ScriptConfig}
use Rattle.spdm_grammar.specs.Message.{ChunkMessage}
use Rattle.spdm_grammar.specs.declared.names.TheConstants.{MAX_MESSAGE_SIZE}

-- The requester to which a way leads.
abbrev pub answered_by : Direction → (place : ℕ) → Option ℕ
answered_by Request place = None
answered_by Response place = Some place

abbrev pub answered : Option Way → Option ℕ
answered None = None
answered (Some way) = answered_by way.direction way.place

-- The chunk in the inner message of a record that opens.
abbrev pub chunk_inside : Seen → Option ChunkMessage
chunk_inside (Open keys padding inner) = chunk_of (Body false inner)
chunk_inside _ = None

abbrev pub chunk_if : (place : ℕ) → Option ℕ → Seen → Option ChunkMessage
chunk_if place None seen = None
chunk_if place (Some at) seen = if at == place then chunk_inside seen else None

-- The chunks that came in records to the requester at a place.
abbrev pub chunks_to : ScriptConfig → (place : ℕ) → List (List ℕ) → List ChunkMessage
chunks_to config place [] = []
chunks_to config place (packet ∷ older) = with_chunk (chunk_if place (answered (way_in config (parsed packet))) (record_in config older packet)) (chunks_to config place older)

-- What the record that a packet completes does to a large message of its requester.
abbrev pub inside_at : ScriptConfig → List (List ℕ) → Option ℕ → Seen → Large
inside_at config older None seen = NoChunk
inside_at config older (Some place) seen = large_by (accepted_of MAX_MESSAGE_SIZE (chunks_to config place older)) (chunk_inside seen)

unfoldable pub inside_in : ScriptConfig → List (List ℕ) → (packet : List ℕ) → Large
inside_in config older packet = inside_at config older (answered (way_in config (parsed packet))) (record_in config older packet)

-- ---- What is kept of all requesters.

pub record Collects (inside : Inside) (config : ScriptConfig) (older : List (List ℕ)) : Type 0 where
  pub count : length inside.all.items ≡ length config.requesters
  pub stand : (place : ℕ) (d : InnerChunks) → place < length inside.all.items
      → StandsFor (slice_index_or inside.all.items place d).collector (accepted_of MAX_MESSAGE_SIZE (chunks_to config place older))
