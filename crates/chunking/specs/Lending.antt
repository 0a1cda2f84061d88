-- What a collector is after it lent a message. This project's own.
use Rattle.std.specs.Prelude.{◌≡◌, List}
use Rattle.std.specs.Borrow.{Fml, MutBor}
use Rattle.std.specs.Io.BufRead.{Rests}
use Rattle.spdm_grammar.specs.Message.{ChunkMessage}
use Rattle.spdm_grammar.specs.declared.ChunkFault.{ChunkFault}
use Rattle.chunking.specs.Collecting.{Collection, accepted_with}
use Rattle.chunking.specs.Collecting.Collection.{Refused}
use Rattle.chunking.specs.Keeping.{Kept, StandsFor}
use Rattle.chunking.specs.contracts.collector.Collector.{the_row}

-- A collector that was given this chunk, with this answer: it stands for the accepted chunks with this one,
-- where it breaks no rule, and a refused chunk changes nothing.
pub record TakesChunk (c : ChunkMessage) (answer : Collection) (old new : Kept) : Type 0 where
  pub max : new.max ≡ old.max
  pub stands : (accepted : List ChunkMessage) → StandsFor old accepted → StandsFor new (accepted_with old.max accepted c)
  pub refused : (fault : ChunkFault) → answer ≡ Refused fault → new ≡ old

-- The collector ends as one that was given this chunk, once the answer is given back.
abbrev pub RestsWith : MutBor Kept → ChunkMessage → Collection → Fml
RestsWith s c answer = Rests the_row s (λ new. TakesChunk c answer s.now new)
