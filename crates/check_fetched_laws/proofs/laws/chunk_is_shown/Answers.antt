use Rattle.check_fetched_laws.proofs.ChunkShown.{chunk_is_shown}
use Rattle.check_fetched_laws.proofs.laws.chunk_is_shown.Goals as goal

pub returns : goal.returns
returns c = chunk_is_shown
