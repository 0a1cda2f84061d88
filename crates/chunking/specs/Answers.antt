-- The answers of the calls, as those of the definitions.
use Rattle.std.specs.Prelude.{ℕ, List, [], Option, Some, None}
use Rattle.spdm_grammar.specs.Message.{ChunkMessage, chunk_message}
use Rattle.spdm_grammar.specs.declared.ChunkView.{ChunkView}
use Rattle.chunking.specs.Collecting.{Collection}
use Rattle.chunking.specs.Collecting.Collection.{Whole, More, Refused}
use Rattle.chunking.specs.declared.collector.Collected.{Collected}
use Rattle.chunking.specs.declared.collector.Collected.TheVariants as taken
use Rattle.chunking.specs.declared.collector.Step.{Step}
use Rattle.chunking.specs.declared.collector.Step.TheVariants as step

-- What a caller is told.
abbrev pub collection_of : Collected → Collection
collection_of (taken.Whole message) = Whole message.now
collection_of taken.More = More
collection_of (taken.Refused fault) = Refused fault

-- The message that was completed; none is empty.
abbrev pub whole_of : Collected → List ℕ
whole_of (taken.Whole message) = message.now
whole_of taken.More = []
whole_of (taken.Refused fault) = []

-- A step, with the bytes that the collector has after it.
abbrev pub step_answer : Step → (bytes : List ℕ) → Collection
step_answer step.Whole bytes = Whole bytes
step_answer step.More bytes = More
step_answer (step.Refused fault) bytes = Refused fault

-- The chunk that a splitter gives, if it gives one.
abbrev pub chunk_given : Option ChunkView → Option ChunkMessage
chunk_given None = None
chunk_given (Some chunk) = Some (chunk_message chunk)
