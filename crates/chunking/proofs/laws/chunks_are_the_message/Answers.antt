use Rattle.chunking.proofs.ChunkSteps.{chunks_join}
use Rattle.chunking.proofs.laws.chunks_are_the_message.Goals as goal

pub returns : goal.returns
returns c = chunks_join
