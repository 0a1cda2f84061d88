use Rattle.check_laws.proofs.LastChunks.{last_chunk_changes}
use Rattle.check_laws.proofs.change_laws.last_chunk_changes.Goals as goal

pub returns : goal.returns
returns c = last_chunk_changes
