-- One chunk of a request: that it has an encoding, and how long CHUNK_SEND with it is.
use Rattle.std.proofs.Common.{◌≤◌, ℕ, List, length, arith}
use Rattle.std.proofs.lemmas.List.{length-append}
use Rattle.chunking.proofs.ChunkLengths.{chunk_framed, chunk_sound}
use Rattle.chunking.specs.Cutting.{nth_chunk}
use Rattle.spdm_grammar.specs.Fields.{IsSoundChunk}
use Rattle.spdm_grammar.specs.Message.RequestMessage.{ChunkSend}
use Rattle.spdm_grammar.specs.Requests.{canonical_request}
use Rattle.spdm_grammar.specs.declared.names.TheConstants.{MAX_MESSAGE_SIZE, MIN_DATA_TRANSFER_SIZE}

pub piece_fits : (transfer handle : ℕ) (message : List ℕ) (k : ℕ) → 16 ≤ transfer → length (canonical_request (ChunkSend (nth_chunk transfer handle message k))) ≤ transfer
piece_fits transfer handle message k least =
    let framed = chunk_framed transfer handle message k least in
    simp length-append (omega (arith, framed))

pub piece_short : (transfer handle : ℕ) (message : List ℕ) (k : ℕ) → MIN_DATA_TRANSFER_SIZE ≤ transfer → transfer ≤ MAX_MESSAGE_SIZE → length (canonical_request (ChunkSend (nth_chunk transfer handle message k))) ≤ MAX_MESSAGE_SIZE
piece_short transfer handle message k least most = (let fits = piece_fits transfer handle message k (omega (arith, least)) in omega (arith, fits, most))

pub piece_sound : (transfer handle : ℕ) (message : List ℕ) (k : ℕ) → transfer ≤ MAX_MESSAGE_SIZE → IsSoundChunk (nth_chunk transfer handle message k)
piece_sound transfer handle message k most = chunk_sound transfer handle message k (omega (arith, most))
