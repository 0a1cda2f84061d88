-- The three writes of a call change one slot alone.
use Rattle.std.proofs.Common.{◌≡◌, ◌<◌, ◌≤◌, ◌+◌, ℕ, zero, suc, List, [], ◌∷◌, length, drop, arith, refl, sym, ap, ◌∙◌, subst, inl, inr, ◌==◌, slice_index}
use Rattle.std.proofs.lemmas.List.{get_or-drop}
use Rattle.byteorder.specs.Endian.{little_bytes, little_from}
use Rattle.boot_keeper.specs.declared.slot.Slot.{Slot}
use Rattle.boot_keeper.specs.declared.slot.Slot.TheVariants.{First, Second}
use Rattle.boot_keeper.specs.Device.{IsTorn, MayLeave, written}
use Rattle.boot_keeper.specs.Slots.{is_valid, number_in, place_of, three_writes, valid_number}
use Rattle.boot_keeper.proofs.Written.{written_torn}

-- A range within a range.
widened : (at count from size : ℕ) (old new : List ℕ) → IsTorn at count old new → from ≤ at → at + count ≤ from + size → IsTorn from size old new
widened at count from size old new torn before behind = record {
  long = torn.long;
  before = λ i less. torn.before i (omega arith);
  behind = λ i more. torn.behind i (omega arith);
}

-- One after another.
both : (at count : ℕ) (old mid new : List ℕ) → IsTorn at count old mid → IsTorn at count mid new → IsTorn at count old new
both at count old mid new first second = record {
  long = second.long ∙ first.long;
  before = λ i less. second.before i less ∙ first.before i less;
  behind = λ i more. second.behind i more ∙ first.behind i more;
}

-- A write within a range.
done : (at from size : ℕ) (bytes old : List ℕ) → from + size ≤ length old → from ≤ at → at + length bytes ≤ from + size → IsTorn from size old (written at bytes old)
done at from size bytes old fits before behind =
    widened at (length bytes) from size old (written at bytes old) (written_torn at (length bytes) bytes old (omega arith) (omega arith)) before behind

-- Whatever a call may leave, it changed nothing but its slot.
pub within : (p number : ℕ) (old new : List ℕ) (slot : Slot) → p ≡ place_of slot → p + 9 ≤ length old → MayLeave (three_writes slot number) old new → IsTorn (place_of slot) 9 old new
within p number old new slot is fits left =
    let at = place_of slot in
    let enough : at + 9 ≤ length old = omega (arith, is, fits) in
    let closed = written (at + 8) (0 ∷ []) old in
    let first : IsTorn at 9 old closed = done (at + 8) at 9 (0 ∷ []) old enough (omega arith) (omega arith) in
    let there : at + 9 ≤ length closed = omega (arith, first.long, enough) in
    let numbered = written at (little_bytes 8 number) closed in
    let second : IsTorn at 9 old numbered = both at 9 old closed numbered first (done at at 9 (little_bytes 8 number) closed there (omega arith) (omega arith)) in
    let here : at + 9 ≤ length numbered = omega (arith, second.long, enough) in
    elim left [
      | inl torn ↦ widened (at + 8) 1 at 9 old new torn (omega arith) (omega arith)
      | inr later ↦ elim later [
        | inl torn ↦ both at 9 old closed new first (widened at 8 at 9 closed new torn (omega arith) (omega arith))
        | inr last ↦ elim last [
          | inl torn ↦ both at 9 old numbered new second (widened (at + 8) 1 at 9 numbered new torn (omega arith) (omega arith))
          | inr all ↦ both at 9 old numbered new second (subst (λ d. IsTorn at 9 numbered d) (sym all) (done (at + 8) at 9 (1 ∷ []) numbered here (omega arith) (omega arith)))
        ]
      ]
    ]

-- The other slot.
abbrev pub opposite : Slot → Slot
opposite First = Second
opposite Second = First

-- The number in bytes that are the same.
pub same_little : (n i : ℕ) (xs ys : List ℕ) → ((k : ℕ) → i ≤ k → k < i + n → slice_index ys k ≡ slice_index xs k) → little_from i n ys ≡ little_from i n xs
same_little zero i xs ys same = refl
same_little (suc n) i xs ys same =
    let head : slice_index ys i ≡ slice_index xs i = same i (omega arith) (omega arith) in
    let rest : little_from (suc i) n ys ≡ little_from (suc i) n xs = same_little n (suc i) xs ys (λ k low high. same k (omega arith) (omega arith)) in
    cc

-- A slot whose bytes are the same.
pub same_slot : (slot : Slot) (old new : List ℕ) → ((k : ℕ) → place_of slot ≤ k → k < place_of slot + 9 → slice_index new k ≡ slice_index old k) → valid_number new slot ≡ valid_number old slot
same_slot slot old new same =
    let number : number_in new slot ≡ number_in old slot =
    same_little 8 0 (drop (place_of slot) old) (drop (place_of slot) new) (λ k low high. get_or-drop (place_of slot) new k 0 ∙ same (place_of slot + k) (omega arith) (omega arith) ∙ sym (get_or-drop (place_of slot) old k 0)) in
    let gate : is_valid new slot ≡ is_valid old slot = ap (λ g. g == 1) (same (place_of slot + 8) (omega arith) (omega arith)) in
    rw (gate, number) refl

-- The slot that a call does not write is the same.
pub other_same : (slot : Slot) (old new : List ℕ) → IsTorn (place_of slot) 9 old new → valid_number new (opposite slot) ≡ valid_number old (opposite slot)
other_same First old new torn = same_slot Second old new (λ k low high. torn.behind k low)
other_same Second old new torn = same_slot First old new (λ k low high. torn.before k high)
