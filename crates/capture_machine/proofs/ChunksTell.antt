-- The chunks of a large request tell it.
use Rattle.std.proofs.Common.{◌≡◌, ◌+◌, ◌-◌, ◌*◌, ◌/◌, ◌%◌, ◌<◌, ◌≤◌, ℕ, zero, suc, List, ◌++◌, refl, sym, ap, ◌∙◌, subst, length, drop, min, Bool, true, false, Some, None, cond, arith, inl, inr}
use Rattle.std.specs.Prelude.{slice_index}
use Rattle.std.proofs.Math.Nat.{div-zero}
use Rattle.std.proofs.lemmas.Grind.{div_ceil_times}
use Rattle.std.proofs.lemmas.List.{take_all}
use Rattle.std.proofs.lemmas.Bool.{cases_order}
use Rattle.chunking.specs.Collecting.{joined}
use Rattle.chunking.specs.Cutting.{unit_of, chunk_count, nth_chunk, chunks_before}
use Rattle.chunking.proofs.ChunkSteps.{joined-before}
use Rattle.spdm_grammar.specs.Message.RequestMessage.{ChunkSend}
use Rattle.spdm_grammar.specs.Requests.{canonical_request}

-- ---- One chunk.

-- CHUNK_SEND with handle and number tells the bytes, and the length where it tells one.
pub bytes_tell : (b last late : Bool) (handle number size long : ℕ) (x y : List ℕ) → size < 65536 → long < 65536
    → canonical_request (ChunkSend (record { last = last; handle = handle; number = number; large = cond b (Some size) None; chunk = x }))
    ≡ canonical_request (ChunkSend (record { last = late; handle = handle; number = number; large = cond b (Some long) None; chunk = y }))
    → (x ≡ y) × (b ≡ true → size ≡ long)
bytes_tell true last late handle number size long x y small short e =
    let low = ap (λ (l : List ℕ). slice_index l 12) e in
    let high = ap (λ (l : List ℕ). slice_index l 13) e in
    (ap (λ (l : List ℕ). drop 16 l) e, λ is. omega arith)
bytes_tell false last late handle number size long x y small short e = (ap (λ (l : List ℕ). drop 12 l) e, λ is. absurd (cc))

-- ---- All chunks.

zero_div : (n : ℕ) → n / 0 ≡ 0
zero_div n = div-zero n

-- Where there are two chunks at least, each holds some bytes.
pub some_bytes : (transfer : ℕ) (w : List ℕ) → 2 ≤ chunk_count transfer w → 12 < transfer
some_bytes transfer w two = elim (cases_order transfer 12) [
  | inl same ↦ absurd (none (omega arith))
  | inr apart ↦ elim apart [
    | inl below ↦ absurd (none (omega arith))
    | inr above ↦ above
  ]
]
  where
    none : transfer - 12 ≡ 0 → ⊥
    none is =
        let P : ℕ → Type 0 = λ unit. 2 ≤ (length w + 4) / unit + min 1 ((length w + 4) % unit) in
        let at : 2 ≤ (length w + 4) / 0 + min 1 ((length w + 4) % 0) = subst P is two in
        omega (arith, zero_div (length w + 4))

-- The chunks of a whole message join to it.
pub all_joined : (transfer handle : ℕ) (w : List ℕ) (count : ℕ) → 12 < transfer → length w + 4 ≤ count * unit_of transfer → joined (chunks_before transfer handle w count) ≡ w
all_joined transfer handle w count some enough =
    joined-before transfer handle w some count ∙ take_all (count * unit_of transfer - 4) w (omega arith)

module _ (transfer handle : ℕ) (w v : List ℕ) where
  -- The chunks of all numbers below this one hold the same bytes.
  abbrev pub SameBelow : ℕ → Type 0
  SameBelow n = (k : ℕ) → k < n → (nth_chunk transfer handle w k).chunk ≡ (nth_chunk transfer handle v k).chunk

  joins : (n : ℕ) → SameBelow n → joined (chunks_before transfer handle w n) ≡ joined (chunks_before transfer handle v n)
  joins zero same = refl
  joins (suc n) same =
      ap (λ (l : List ℕ). l ++ (nth_chunk transfer handle w n).chunk) (joins n (λ k less. same k (omega arith)))
      ∙ ap (λ (l : List ℕ). joined (chunks_before transfer handle v n) ++ l) (same n (omega arith))

  pub whole_told : length w ≡ length v → 2 ≤ chunk_count transfer w → SameBelow (chunk_count transfer w) → w ≡ v
  whole_told long two same =
      let count = chunk_count transfer w in
      let some : 12 < transfer = some_bytes transfer w two in
      let around = div_ceil_times (length w + 4) (unit_of transfer) (omega arith) in
      sym (all_joined transfer handle w count some (omega (arith, around.0))) ∙ joins count same ∙ all_joined transfer handle v count some (omega (arith, around.0))
