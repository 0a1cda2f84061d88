-- Where the chunks of a message begin and end, and what they hold together.
use Rattle.std.proofs.Common.{◌≡◌, ◌∙◌, ◌+◌, ◌-◌, ◌*◌, ◌<◌, ◌≤◌, ◌++◌, ℕ, zero, suc, Bool, true, false, List, [], ◌∷◌, length, take, map, min, slice_range, refl, sym, ap, subst, arith, add-one, take-add, append-nil, nat_eq}
use Rattle.std.specs.Prelude.{if◌then◌else◌}
use Rattle.std.specs.List.{concat, range_with_len}
use Rattle.std.proofs.lemmas.Grind.{common_steps, div_ceil_times}
use Rattle.std.proofs.lemmas.Nat.{mul-le}
use Rattle.std.proofs.lemmas.Bool.{eqb-true}
use Rattle.std.proofs.lemmas.List.{take_all}
use Rattle.std.proofs.lemmas.List.Folds.{concat-append}
use Rattle.std.proofs.lemmas.List.FromFn.{map-range_with_len_more}
use Rattle.spdm_grammar.specs.Message.{ChunkMessage}
use Rattle.chunking.specs.Cutting.{unit_of, chunk_start, chunk_end, chunk_count, nth_chunk, chunks_of, chunks_before}
use Rattle.chunking.specs.Collecting.{joined}
use Rattle.spdm_basis.proofs.Bools.{suc_units}

range_length : (message : List ℕ) (a b : ℕ) → length (slice_range message a b) ≡ min b (length message) - a
range_length message a b = grind (arith, common_steps)

-- the bytes before a place and those from there to a later one
next_range : (message : List ℕ) (a b : ℕ) → a ≤ b → take a message ++ slice_range message a b ≡ take b message
next_range message a b h =
    let whole : a + (b - a) ≡ b = omega arith in
    sym (take-add a (b - a) message) ∙ ap (λ (n : ℕ). take n message) whole

module _ (transfer handle : ℕ) (message : List ℕ) (some : 12 < transfer) where
  abbrev unit : ℕ
  unit = unit_of transfer

  abbrev count : ℕ
  count = chunk_count transfer message

  abbrev nth : ℕ → ChunkMessage
  nth k = nth_chunk transfer handle message k

  has_unit : 0 < unit
  has_unit = omega arith

  -- a chunk that there is begins before the end of the message and the four bytes of its length
  pub reaches : (k : ℕ) → k < count → k * unit < length message + 4
  reaches k within =
      let around = div_ceil_times (length message + 4) unit has_unit in
      let most : suc k * unit ≤ count * unit = mul-le (suc k) unit count unit (omega arith) (omega arith) in
      omega (arith, around.1, most, suc_units k unit)

  -- the last one ends at the end
  pub ends : (k : ℕ) → k + 1 ≡ count → length message + 4 ≤ k * unit + unit
  ends k e =
      let around = div_ceil_times (length message + 4) unit has_unit in
      let P : ℕ → Type 0 = λ n. length message + 4 ≤ n * unit in
      let whole : length message + 4 ≤ suc k * unit = subst P (sym e ∙ add-one k) around.0 in
      omega (arith, whole, suc_units k unit)

  -- another one ends before
  pub goes_on : (k : ℕ) → k + 1 < count → k * unit + unit < length message + 4
  goes_on k within =
      let next : suc k * unit < length message + 4 = reaches (suc k) (omega arith) in
      omega (arith, next, suc_units k unit)

  pub size_is : (k : ℕ) → length (nth k).chunk ≡ min (k * unit + unit - 4) (length message) - (k * unit - 4)
  size_is k = range_length message (chunk_start transfer k) (chunk_end transfer k)

  next_chunk : (k : ℕ) → take (k * unit - 4) message ++ (nth k).chunk ≡ take ((k + 1) * unit - 4) message
  next_chunk k =
      let same : k * unit + unit ≡ (k + 1) * unit = sym (suc_units k unit) ∙ ap (λ (n : ℕ). n * unit) (sym (add-one k)) in
      next_range message (k * unit - 4) (k * unit + unit - 4) (omega arith) ∙ ap (λ (n : ℕ). take (n - 4) message) same

  -- the chunks below a number hold the bytes up to it
  pub joined-before : (k : ℕ) → joined (chunks_before transfer handle message k) ≡ take (k * unit - 4) message
  joined-before zero = grind (arith, common_steps)
  joined-before (suc k) =
      ap (λ (xs : List ℕ). xs ++ (nth k).chunk) (joined-before k)
      ∙ next_chunk k
      ∙ ap (λ (n : ℕ). take (n * unit - 4) message) (add-one k)

  join_more : (m : ℕ) → concat (map (λ k. (nth k).chunk) (range_with_len 0 (m + 1))) ≡ concat (map (λ k. (nth k).chunk) (range_with_len 0 m)) ++ (nth m).chunk
  join_more m =
      let f : ℕ → List ℕ = λ k. (nth k).chunk in
      ap concat (map-range_with_len_more f 0 m m (omega arith))
      ∙ concat-append (map f (range_with_len 0 m)) (f m ∷ [])
      ∙ ap (λ (xs : List ℕ). concat (map f (range_with_len 0 m)) ++ xs) (append-nil (f m))

  join_below : (m : ℕ) → concat (map (λ k. (nth k).chunk) (range_with_len 0 m)) ≡ take (m * unit - 4) message
  join_below zero = grind (arith, common_steps)
  join_below (suc m) =
      let f : ℕ → List ℕ = λ k. (nth k).chunk in
      let P : ℕ → Type 0 = λ n. concat (map f (range_with_len 0 n)) ≡ take (n * unit - 4) message in
      subst P (add-one m) (join_more m ∙ ap (λ (xs : List ℕ). xs ++ f m) (join_below m) ∙ next_chunk m)

  bytes_of : (f : ℕ → ChunkMessage) (ks : List ℕ) → map (λ c. c.chunk) (map f ks) ≡ map (λ k. (f k).chunk) ks
  bytes_of f [] = refl
  bytes_of f (k ∷ ks) = ap (λ (xs : List (List ℕ)). (f k).chunk ∷ xs) (bytes_of f ks)

  pub chunks_join : concat (map (λ c. c.chunk) (chunks_of transfer handle message)) ≡ message
  chunks_join =
      let around = div_ceil_times (length message + 4) unit has_unit in
      ap concat (bytes_of nth (range_with_len 0 count))
      ∙ join_below count
      ∙ take_all (count * unit - 4) message (omega (arith, around.0))

  first_size : (b : Bool) (k : ℕ) → 16 ≤ transfer → nat_eq k 0 ≡ b → k + 1 < count → length (nth k).chunk ≡ (if b then transfer - 16 else transfer - 12)
  first_size true zero low e within = omega (arith, size_is 0, goes_on 0 within)
  first_size false zero low e within = cc
  first_size true (suc k) low e within = absurd (omega (arith, eqb-true (suc k) 0 e))
  first_size false (suc k) low e within = omega (arith, size_is (suc k), goes_on (suc k) within, suc_units k unit)

  pub size_of_chunk : (k : ℕ) → 16 ≤ transfer → k + 1 < count → length (nth k).chunk ≡ (if nat_eq k 0 then transfer - 16 else transfer - 12)
  size_of_chunk k low within = first_size (nat_eq k 0) k low refl within
