-- The chunks of a message as a list: how many there are, and the list from one of them on.
use Rattle.std.proofs.Common.{◌≡◌, ◌∙◌, ◌<◌, ◌≤◌, ◌+◌, ℕ, List, [], ◌∷◌, drop, length, sym, ap, arith}
use Rattle.std.specs.Prelude.{Some, None}
use Rattle.std.specs.List.{slice_get}
use Rattle.std.proofs.lemmas.List.{drop_more, drop_all}
use Rattle.std.proofs.lemmas.List.FromFn.{length-map-range_with_len, get_or-map-range_with_len}
use Rattle.spdm_grammar.specs.Message.{ChunkMessage}
use Rattle.chunking.specs.Cutting.{nth_chunk, chunk_count, chunks_of}

pub length-chunks_of : (transfer handle : ℕ) (message : List ℕ) → length (chunks_of transfer handle message) ≡ chunk_count transfer message
length-chunks_of transfer handle message = length-map-range_with_len (nth_chunk transfer handle message) 0 (chunk_count transfer message)

-- the chunks from number k on are chunk k and those from the next on
pub chunks_from : (transfer handle : ℕ) (message : List ℕ) (k : ℕ) → k < chunk_count transfer message →
    drop k (chunks_of transfer handle message) ≡ nth_chunk transfer handle message k ∷ drop (k + 1) (chunks_of transfer handle message)
chunks_from transfer handle message k within =
    let all = chunks_of transfer handle message in
    let d = nth_chunk transfer handle message 0 in
    let inside : k < length all = rw (length-chunks_of transfer handle message) within in
    drop_more all k d inside
    ∙ ap (λ (c : ChunkMessage). c ∷ drop (k + 1) all) (get_or-map-range_with_len (nth_chunk transfer handle message) 0 (chunk_count transfer message) k k d within (omega arith))

-- nothing is left after the last chunk
pub no_chunks_from : (transfer handle : ℕ) (message : List ℕ) (k : ℕ) → chunk_count transfer message ≤ k → drop k (chunks_of transfer handle message) ≡ []
no_chunks_from transfer handle message k end =
    let past : length (chunks_of transfer handle message) ≤ k = rw (length-chunks_of transfer handle message) end in
    drop_all k (chunks_of transfer handle message) past

module _ (transfer handle : ℕ) (message : List ℕ) (taken : ℕ) (now : List ChunkMessage) (left : drop taken (chunks_of transfer handle message) ≡ now) where
  pub rest_left : taken < chunk_count transfer message → drop (taken + 1) (chunks_of transfer handle message) ≡ drop 1 now
  rest_left within = ap (drop 1) (sym (chunks_from transfer handle message taken within) ∙ left)

  pub still_none : chunk_count transfer message ≤ taken → now ≡ drop 1 now
  still_none end =
      let none = sym left ∙ no_chunks_from transfer handle message taken end in
      none ∙ ap (drop 1) (sym none)

  pub first_left : taken < chunk_count transfer message → Some (nth_chunk transfer handle message taken) ≡ slice_get now 0
  first_left within =
      ap (λ (cs : List ChunkMessage). slice_get cs 0) (sym (chunks_from transfer handle message taken within) ∙ left)

  pub none_left : chunk_count transfer message ≤ taken → None ≡ slice_get now 0
  none_left end =
      ap (λ (cs : List ChunkMessage). slice_get cs 0) (sym (no_chunks_from transfer handle message taken end) ∙ left)
