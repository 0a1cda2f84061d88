-- The chunks of bytes that begin alike.
use Rattle.std.proofs.Common.{◌≡◌, ◌+◌, ◌-◌, ◌*◌, ◌<◌, ◌≤◌, ◌==◌, ◌++◌, ℕ, zero, suc, List, [], ◌∷◌, refl, sym, ap, ◌∙◌, length, drop, take, Some, None, arith, cond, add-one}
use Rattle.std.specs.Prelude.{slice_range}
use Rattle.std.proofs.lemmas.Grind.{div_ceil_times}
use Rattle.std.proofs.lemmas.List.{drop-take, length-take}
use Rattle.chunking.proofs.ChunkSteps.{goes_on, joined-before}
use Rattle.chunking.specs.Collecting.{joined}
use Rattle.chunking.specs.Cutting.{chunk_end, chunk_start, chunks_before, nth_chunk, unit_of}
use Rattle.spdm_basis.proofs.Bools.{suc_units}
use Rattle.spdm_grammar.specs.Message.{ChunkMessage}
use Rattle.capture_machine.proofs.ChunksTell.{SameBelow}
use Rattle.check_laws.specs.Large.Sending.{count_of}

-- ---- Beginnings.

pub take_take : (m n : ℕ) (w : List ℕ) → m ≤ n → take m (take n w) ≡ take m w
take_take zero n w less = refl
take_take (suc m) zero w less = absurd (omega arith)
take_take (suc m) (suc n) [] less = refl
take_take (suc m) (suc n) (x ∷ w) less = ap (λ (l : List ℕ). x ∷ l) (take_take m n w (omega arith))

pub take_less : (n m : ℕ) (w v : List ℕ) → m ≤ n → take n w ≡ take n v → take m w ≡ take m v
take_less n m w v less same = sym (take_take m n w less) ∙ ap (take m) same ∙ take_take m n v less

pub range_is : (w : List ℕ) (a b : ℕ) → a ≤ b → slice_range w a b ≡ drop a (take b w)
range_is w a b less =
    let whole : a + (b - a) ≡ b = omega arith in
    sym (drop-take a (b - a) w) ∙ ap (λ (n : ℕ). drop a (take n w)) whole

-- The chunk of this number of bytes that begin alike up to its end.
pub same_chunk : (transfer handle number : ℕ) (w v : List ℕ) → length w ≡ length v → take (chunk_end transfer number) w ≡ take (chunk_end transfer number) v → nth_chunk transfer handle w number ≡ nth_chunk transfer handle v number
same_chunk transfer handle number w v size same =
    let bytes : slice_range w (chunk_start transfer number) (chunk_end transfer number) ≡ slice_range v (chunk_start transfer number) (chunk_end transfer number) =
    range_is w (chunk_start transfer number) (chunk_end transfer number) (omega arith) ∙ ap (drop (chunk_start transfer number)) same
    ∙ sym (range_is v (chunk_start transfer number) (chunk_end transfer number) (omega arith)) in
    let P : ℕ → List ℕ → ChunkMessage = λ n l. record {
      last = number + 1 == count_of transfer n;
      handle = handle;
      number = number;
      large = cond (number == 0) (Some n) None;
      chunk = l;
    } in
    ap (λ (n : ℕ). P n (slice_range w (chunk_start transfer number) (chunk_end transfer number))) size ∙ ap (P (length v)) bytes

pub first_less : (transfer number : ℕ) (w v : List ℕ) → take (chunk_end transfer (number + 1)) w ≡ take (chunk_end transfer (number + 1)) v → take (chunk_end transfer number) w ≡ take (chunk_end transfer number) v
first_less transfer number w v same =
    take_less (chunk_end transfer (number + 1)) (chunk_end transfer number) w v (let e = suc_units number (unit_of transfer) in let f = ap (λ (n : ℕ). n * unit_of transfer) (add-one number) in omega (arith, e, f)) same

-- ---- Chunks that are the same.

joins : (transfer handle : ℕ) (w v : List ℕ) (n : ℕ) → SameBelow transfer handle w v n → joined (chunks_before transfer handle w n) ≡ joined (chunks_before transfer handle v n)
joins transfer handle w v zero same = refl
joins transfer handle w v (suc n) same =
    ap (λ (l : List ℕ). l ++ (nth_chunk transfer handle w n).chunk) (joins transfer handle w v n (λ k less. same k (omega arith)))
    ∙ ap (λ (l : List ℕ). joined (chunks_before transfer handle v n) ++ l) (same n (omega arith))

pub same_bytes : (transfer handle number : ℕ) (w v : List ℕ) → 12 < transfer → SameBelow transfer handle w v (number + 1) → take (chunk_end transfer number) w ≡ take (chunk_end transfer number) v
same_bytes transfer handle number w v some same =
    let at : (number + 1) * unit_of transfer - 4 ≡ chunk_end transfer number = let e = suc_units number (unit_of transfer) in let f = ap (λ (n : ℕ). n * unit_of transfer) (add-one number) in omega (arith, e, f) in
    ap (λ (n : ℕ). take n w) (sym at) ∙ sym (joined-before transfer handle w some (number + 1)) ∙ joins transfer handle w v (number + 1) same
    ∙ joined-before transfer handle v some (number + 1) ∙ ap (λ (n : ℕ). take n v) at

-- ---- Lengths.

-- A chunk that is not the last one ends within the bytes.
pub ends_within : (transfer handle number : ℕ) (w : List ℕ) → 12 < transfer → number + 1 < count_of transfer (length w) → length (take (chunk_end transfer number) w) ≡ chunk_end transfer number
ends_within transfer handle number w some more =
    let within = goes_on transfer handle w some number more in
    length-take (chunk_end transfer number) w ∙ (omega (arith, within))

above_one : (n unit size : ℕ) → size ≤ n * unit → unit < size → 0 + 1 < n
above_one zero unit size enough less = absurd (omega (arith, enough))
above_one (suc zero) unit size enough less = absurd (let e = suc_units 0 unit in omega (arith, enough, e))
above_one (suc (suc n)) unit size enough less = omega arith

-- There are two chunks at least of what is above the transfer size.
pub two_chunks : (transfer size : ℕ) → 12 < transfer → transfer < size → 0 + 1 < count_of transfer size
two_chunks transfer size some large =
    let around = div_ceil_times (size + 4) (unit_of transfer) (omega arith) in
    above_one (count_of transfer size) (unit_of transfer) (size + 4) around.0 (omega arith)
