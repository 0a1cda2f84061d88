-- The answers of the calls, as those of the definitions.
use Rattle.std.specs.Prelude.{ℕ, List, Option, Some, None}
use Rattle.capture_bodies.specs.Collecting as collecting
use Rattle.capture_bodies.specs.Collecting.{Large}
use Rattle.capture_bodies.specs.Completing as completing
use Rattle.capture_bodies.specs.Completing.{Completed}
use Rattle.capture_bodies.specs.declared.came.Came.{Came}
use Rattle.capture_bodies.specs.declared.came.Came.TheVariants as came
use Rattle.capture_bodies.specs.declared.came.LargePart.{LargePart}
use Rattle.capture_bodies.specs.declared.came.LargePart.TheVariants as part
use Rattle.chunking.specs.Collecting as chunks
use Rattle.chunking.specs.Collecting.{Collection}
use Rattle.spdm_grammar.specs.Message.{ChunkMessage, chunk_message}
use Rattle.spdm_grammar.specs.declared.ChunkView.{ChunkView}
use Rattle.capture_bodies.specs.declared.came.Collected.{Collected}
use Rattle.capture_bodies.specs.declared.came.Collected.TheVariants as step

-- What a packet completes, with the body that was put down.
abbrev pub came_as : Came → (body : List ℕ) → Completed
came_as (came.Body owner) body = completing.Completed.Body owner body
came_as came.More body = completing.Completed.More
came_as (came.Dropped cause) body = completing.Completed.Dropped cause

-- What it does to a large message, with the message that was put down.
abbrev pub part_as : LargePart → (message : List ℕ) → Large
part_as part.NoChunk message = collecting.Large.NoChunk
part_as (part.Awaiting held told) message = collecting.Large.Awaiting held told
part_as part.Whole message = collecting.Large.Whole message
part_as (part.Refused fault) message = collecting.Large.Refused fault

-- What a chunk leads to, with the message that was put down.
abbrev pub collected_as : Collected → (message : List ℕ) → Collection
collected_as step.Whole message = chunks.Collection.Whole message
collected_as step.More message = chunks.Collection.More
collected_as (step.Refused fault) message = chunks.Collection.Refused fault

-- The chunk that was read, if one was.
abbrev pub chunk_read : Option ChunkView → Option ChunkMessage
chunk_read None = None
chunk_read (Some c) = Some (chunk_message c)
