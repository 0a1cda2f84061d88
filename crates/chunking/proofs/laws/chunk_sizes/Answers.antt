use Rattle.std.proofs.Common.{arith}
use Rattle.chunking.proofs.ChunkSteps.{size_of_chunk}
use Rattle.chunking.proofs.laws.chunk_sizes.Goals as goal

pub returns : goal.returns
returns c = λ transfer handle message k low within. size_of_chunk transfer handle message (omega (arith, low)) k low within
