-- Blocks written one after the other into a list of fixed length.
use Rattle.std.proofs.Common.{◌≡◌, ℕ, suc, ◌+◌, ◌-◌, ◌*◌, ◌≤◌, add-one, List, [], ◌++◌, length, take, drop, arith, min, inl, inr, ap, sym, ◌∙◌, refl, append_assoc}
use Rattle.std.proofs.lemmas.List.{take_all, drop_all, drop-drop}
use Rattle.std.proofs.lemmas.Slice.{drop-append-drop}
use Rattle.std.proofs.Math.Seq.{take-append_seam, take-append-add}
use Rattle.std.proofs.lemmas.Bool.{cases_lt}
use Rattle.running_hash.specs.Hash.{Hash}
use Rattle.hmac_hkdf.specs.Hkdf.{block_of, blocks_of}

-- as much of a block as there is room for, written at a place
pub written : (out block : List ℕ) (at count : ℕ) → at ≤ length out → count ≡ min (length block) (length out - at) →
    take at out ++ (take count block ++ drop count (drop at out)) ≡ take at out ++ take (length out - at) block ++ drop (at + length block) out
written out block at count h e = elim (cases_lt (length out - at) (length block)) [
  | inl over ↦
      let is : count ≡ length out - at = omega arith in
      let none : drop count (drop at out) ≡ [] = drop-drop count at out ∙ drop_all (at + count) out (omega arith) in
      let also : drop (at + length block) out ≡ [] = drop_all (at + length block) out (omega arith) in
      rw (none, also, is, append_assoc) refl
  | inr fits ↦
      let is : count ≡ length block = omega arith in
      let whole : take (length out - at) block ≡ block = take_all (length out - at) block fits in
      let all : take (length block) block ≡ block = take_all (length block) block (omega arith) in
      rw (whole, is, all, drop-drop (length block) at out, append_assoc) refl
]

-- one block more after the blocks so far
pub one_more : (blocks block out : List ℕ) (at : ℕ) → length blocks ≡ at → at ≤ length out →
    take at (take (length out) blocks ++ drop at out) ++ take (length out - at) block ++ drop (at + length block) (take (length out) blocks ++ drop at out)
    ≡ take (length out) (blocks ++ block) ++ drop (at + length block) out
one_more blocks block out at e h =
    let whole : take (length out) blocks ≡ blocks = take_all (length out) blocks (omega arith) in
    let front : take at (blocks ++ drop at out) ≡ blocks = ap (λ k. take k (blocks ++ drop at out)) (sym e) ∙ take-append_seam blocks (drop at out) in
    let back : drop (at + length block) (blocks ++ drop at out) ≡ drop (at + length block) out = drop-append-drop at out blocks (at + length block) (omega arith) e in
    let sum : length out ≡ length blocks + (length out - at) = omega arith in
    let cut : take (length out) (blocks ++ block) ≡ blocks ++ take (length out - at) block =
    ap (λ k. take k (blocks ++ block)) sum ∙ take-append-add blocks block (length out - at) in
    rw (whole, front, back, cut) refl

-- the same, where the block is the next one of HKDF
pub next_written : (h : Hash) (prk info out now new block : List ℕ) (i at : ℕ) → at ≡ i * h.size →
    length block ≡ h.size → i * h.size ≤ length out → length now ≡ length out →
    length (blocks_of h prk info i) ≡ i * h.size →
    now ≡ take (length out) (blocks_of h prk info i) ++ drop (i * h.size) out →
    block ≡ block_of h prk info (suc i) →
    new ≡ take at now ++ take (length now - at) block ++ drop (at + length block) now →
    new ≡ take (length out) (blocks_of h prk info (i + 1)) ++ drop ((i + 1) * h.size) out
unfolding blocks_of
next_written h prk info out now new block i at place size within long full done next is =
    let step = one_more (blocks_of h prk info i) block out (i * h.size) full within in
    let after : (i + 1) * h.size ≡ i * h.size + length block = omega arith in
    let more : blocks_of h prk info (i + 1) ≡ blocks_of h prk info i ++ block =
    ap (λ k. blocks_of h prk info k) (add-one i) ∙ ap (λ b. blocks_of h prk info i ++ b) (sym next) in
    rw (after, more) (is ∙ rw (long, place, done) step)
