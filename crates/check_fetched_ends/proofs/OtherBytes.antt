-- While a chunk of a large response is left to be given, other bytes may stand for the answer too: with another last
-- byte.
use Rattle.std.proofs.Common.{◌≡◌, ◌<◌, ◌≤◌, ◌+◌, ◌&&◌, ◌||◌, ℕ, zero, suc, List, [], ◌∷◌, refl, sym, ap, ◌∙◌, drop, take, length, arith, Bool, true, false, Option, Some, None}
use Rattle.std.specs.Prelude.{nat_lt, not, slice_index}
use Rattle.std.proofs.lemmas.Bool.{false≢true}
use Rattle.std.proofs.lemmas.Bool.Decides.{nat_tests}
use Rattle.spdm_basis.proofs.Bools.{and_second}
use Rattle.check_fetched_ends.specs.InSession.{AreLengths}
use Rattle.check_late_laws.specs.Fetching.{Fetching, HasSize, MayStand, bytes_of, size_of}
use Rattle.responder_machine.specs.Place.{Place, place_terms}
use Rattle.responder_machine.specs.Refusal.{bytes_round, sizes_are_known}
use Rattle.capture_machine.proofs.SmallGets.{chunk_sized}
use Rattle.capture_machine.specs.LargeAnswers.{IsLargeAnswer}
use Rattle.check_fetched_ends.proofs.InSessionPut.{few_round}

-- ---- It is long.

chunks_by : (known more over chunk : Bool) → (known && more) ≡ true → (known && (over || (not chunk && more))) ≡ false → chunk ≡ true
chunks_by false more over chunk goes fits = absurd (false≢true goes)
chunks_by true false over chunk goes fits = absurd (false≢true goes)
chunks_by true true true chunk goes fits = absurd (false≢true (sym fits))
chunks_by true true false true goes fits = refl
chunks_by true true false false goes fits = absurd (false≢true (sym fits))

-- A chunk has room for some bytes.
pub large_wide : (p : Place) (v : List ℕ) → IsLargeAnswer p v → 12 < (place_terms p).common.to_requester.transfer
large_wide p v large =
    let more : nat_lt (place_terms p).common.to_requester.transfer (bytes_round p.at + length v) ≡ true = and_second (sizes_are_known p.phase) _ large.0 in
    let chunks = chunks_by (sizes_are_known p.phase) _ (nat_lt (place_terms p).common.to_requester.max (length v)) (place_terms p).common.chunk large.0 large.1 in
    let low = chunk_sized p.negotiation chunks in omega (arith, low)

pub large_some : (p : Place) (v : List ℕ) → IsLargeAnswer p v → 0 < length v
large_some p v large =
    let more : nat_lt (place_terms p).common.to_requester.transfer (bytes_round p.at + length v) ≡ true = and_second (sizes_are_known p.phase) _ large.0 in
    let chunks = chunks_by (sizes_are_known p.phase) _ (nat_lt (place_terms p).common.to_requester.max (length v)) (place_terms p).common.chunk large.0 large.1 in
    let low = chunk_sized p.negotiation chunks in
    let few = few_round p.at in grind (arith, nat_tests, low, few, more)

-- The first bytes are no more than they are to be.
pub take_most : (n : ℕ) (v : List ℕ) → length (take n v) ≤ n
take_most zero [] = omega arith
take_most zero (x ∷ v) = omega arith
take_most (suc n) [] = omega arith
take_most (suc n) (x ∷ v) = (let less = take_most n v in omega (arith, less))

-- ---- Bytes whose last one is another.

abbrev pub flipped : List ℕ → List ℕ
flipped [] = []
flipped (x ∷ []) = (x + 1) ∷ []
flipped (x ∷ y ∷ l) = x ∷ flipped (y ∷ l)

pub flipped_long : (v : List ℕ) → length (flipped v) ≡ length v
flipped_long [] = refl
flipped_long (x ∷ []) = refl
flipped_long (x ∷ y ∷ l) = (let same = flipped_long (y ∷ l) in omega (arith, same))

pub flipped_other : (v : List ℕ) → 0 < length v → v ≡ flipped v → ⊥
flipped_other [] less is = absurd (omega (arith, less))
flipped_other (x ∷ []) less is = absurd (let first = ap (λ (l : List ℕ). slice_index l 0) is in omega (arith, first))
flipped_other (x ∷ y ∷ l) less is = flipped_other (y ∷ l) (omega arith) (ap (drop 1) is)

flipped_take : (n : ℕ) (v : List ℕ) → n < length v → take n (flipped v) ≡ take n v
flipped_take zero [] less = absurd (omega (arith, less))
flipped_take zero (x ∷ []) less = refl
flipped_take zero (x ∷ y ∷ l) less = refl
flipped_take (suc n) [] less = absurd (omega (arith, less))
flipped_take (suc n) (x ∷ []) less = absurd (omega (arith, less))
flipped_take (suc n) (x ∷ y ∷ l) less = ap (λ (z : List ℕ). x ∷ z) (flipped_take n (y ∷ l) (omega (arith, less)))

sized_too : (o : Option ℕ) (v : List ℕ) → HasSize o v → HasSize o (flipped v)
sized_too None v is = is
sized_too (Some n) v is = flipped_long v ∙ is

-- They may stand too.
pub flipped_stands : (f : Fetching) (least most : ℕ) → AreLengths f.place least most → (v : List ℕ) → MayStand f v → length (bytes_of f) < length v → MayStand f (flipped v)
flipped_stands f least most lengths v stand less =
    let range = (lengths v).0 stand.0 in
    let low = range.0 in
    let high = range.1 in
    let long = flipped_long v in
    ((lengths (flipped v)).1 (omega (arith, low, long), omega (arith, high, long)), sized_too (size_of f) v stand.1, flipped_take (length (bytes_of f)) v less ∙ stand.2)
