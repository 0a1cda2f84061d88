-- How long a chunk is, with what stands round it in CHUNK_SEND and CHUNK_RESPONSE.
use Rattle.std.proofs.Common.{refl, ◌≡◌, ◌≤◌, ◌<◌, ◌+◌, ◌-◌, ◌^◌, ℕ, zero, suc, List, Bool, true, false, length, slice_range, ap, arith}
use Rattle.std.proofs.lemmas.Bool.{ne_eqb}
use Rattle.std.proofs.lemmas.List.{length-drop, length-take}
use Rattle.std.specs.Prelude.{if◌then◌else◌, ◌==◌, Some, None, is_some}
use Rattle.chunking.specs.Cutting.{chunk_end, chunk_start, nth_chunk}
use Rattle.spdm_grammar.specs.Fields.{IsSoundChunk, large_bytes}

range_long : (message : List ℕ) (a b : ℕ) → length (slice_range message a b) ≤ b - a
range_long message a b = simp (length-take, length-drop) (omega arith)

-- The first chunk alone tells the length of the whole.
pub told_first : (first : Bool) (n : ℕ) → is_some (if first then Some n else None) ≡ first
told_first true n = refl
told_first false n = refl

told_later : (k n : ℕ) → length (large_bytes (if suc k == 0 then Some n else None)) ≡ 0
told_later k n = ap (λ (first : Bool). length (large_bytes (if first then Some n else None))) (ne_eqb (suc k) 0 (λ e. omega (arith, e)))

-- With its header of twelve bytes and the length of the whole, if it tells it, it fits the transfer size.
pub chunk_framed : (transfer handle : ℕ) (message : List ℕ) (k : ℕ) → 16 ≤ transfer
    → length (large_bytes (nth_chunk transfer handle message k).large) + length (nth_chunk transfer handle message k).chunk + 12 ≤ transfer
chunk_framed transfer handle message zero least =
    let within = range_long message (chunk_start transfer 0) (chunk_end transfer 0) in
    omega arith
chunk_framed transfer handle message (suc k) least =
    let within = range_long message (chunk_start transfer (suc k)) (chunk_end transfer (suc k)) in
    let told = told_later k (length message) in
    omega arith

chunk_short : (transfer handle : ℕ) (message : List ℕ) (k : ℕ) → length (nth_chunk transfer handle message k).chunk ≤ transfer
chunk_short transfer handle message k = (let within = range_long message (chunk_start transfer k) (chunk_end transfer k) in omega arith)

pub chunk_sound : (transfer handle : ℕ) (message : List ℕ) (k : ℕ) → transfer < 2 ^ 32 → IsSoundChunk (nth_chunk transfer handle message k)
chunk_sound transfer handle message k most = record {
  first = told_first (k == 0) (length message);
  size = (let short = chunk_short transfer handle message k in omega arith);
}
