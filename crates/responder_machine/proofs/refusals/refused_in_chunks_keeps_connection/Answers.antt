use Rattle.responder_machine.proofs.KeptRest.{refused_chunk_rest, refused_chunk_kept}
use Rattle.responder_machine.proofs.refusals.refused_in_chunks_keeps_connection.Goals as goal

pub returns-clause-keeps : goal.returns-clause-keeps
returns-clause-keeps c = refused_chunk_rest

pub returns-clause-changes : goal.returns-clause-changes
returns-clause-changes c = refused_chunk_kept
