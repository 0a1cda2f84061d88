-- Whether an answer is a chunk, by what is written of that.
use Rattle.std.proofs.Common.{◌≡◌, ◌≤◌, ◌↔◌, ◌∙◌, IsTrue, ℕ, List, refl, sym, ap, subst, length, Bool, true, false}
use Rattle.std.proofs.lemmas.Bool.{false≢true}
use Rattle.requester_core.proofs.Pieces.{piece_sound}
use Rattle.chunking.specs.Cutting.{nth_chunk}
use Rattle.check_fetched_ends.specs.Held.{CanBeCut, IsResponse, chunk_held}
use Rattle.check_fetched_ends.specs.declared.clear_fetch.held.Held.{Held}
use Rattle.check_late_laws.proofs.Sized.{chunk_few}
use Rattle.spdm_grammar.specs.Fields.{IsSoundChunk}
use Rattle.spdm_grammar.specs.Message.{ChunkMessage}
use Rattle.spdm_grammar.specs.Message.ResponseMessage.{ChunkResponse}
use Rattle.spdm_grammar.specs.Responses.{canonical_response}
use Rattle.spdm_grammar.specs.declared.names.TheConstants.{MAX_MESSAGE_SIZE}
use Rattle.spdm_machine.specs.Bodies.{clear_body}
use Rattle.std.specs.Prelude.{slice_index}

pub no_response : (held : Held) (body answer whole : List ℕ) (chunk : ChunkMessage) (result : Bool) → CanBeCut held whole → chunk ≡ chunk_held held body whole
    → (IsSoundChunk chunk → length (canonical_response (ChunkResponse chunk)) ≤ MAX_MESSAGE_SIZE → (IsTrue result ↔ (clear_body (canonical_response (ChunkResponse chunk)) ≡ answer)))
    → result ≡ false → IsResponse (chunk_held held body whole) answer → ⊥
no_response held body answer whole chunk result cut is told none same =
    let sound : IsSoundChunk chunk = subst IsSoundChunk (sym is) (piece_sound held.transfer (slice_index body 4) whole held.answer.number cut.high) in
    let few : length (canonical_response (ChunkResponse chunk)) ≤ MAX_MESSAGE_SIZE =
    subst (λ (c : ChunkMessage). length (canonical_response (ChunkResponse c)) ≤ MAX_MESSAGE_SIZE) (sym is) (chunk_few held.transfer (slice_index body 4) whole held.answer.number cut.high) in
    let yes : IsTrue result = (told sound few).1 (ap (λ (c : ChunkMessage). clear_body (canonical_response (ChunkResponse c))) is ∙ same) in
    false≢true (sym none ∙ yes)
