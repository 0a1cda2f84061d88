-- Bytes are whole blocks and a rest that begins with none in one way only.
use Rattle.std.proofs.Common.{◌≡◌, ◌<◌, ◌^◌, ◌/◌, ◌%◌, ◌++◌, ℕ, List, [], ◌∷◌, map, length, drop, take, refl, sym, ap, ◌∙◌, append_assoc, arith}
use Rattle.std.proofs.Math.Seq.{drop-append_seam, take-append_seam}
use Rattle.std.specs.List.{AllByRecursion}
use Rattle.measurements.specs.Blocks.{block_bytes, record_of}
use Rattle.measurements.proofs.Lengths.{record_append}
use Rattle.appraise.specs.Records.{Measured, spec_of, IsBlock, bytes_of, BeginsWithBlock}

-- lists of one length in front of others
front_same : (xs ys : List ℕ) (us vs : List ℕ) → length xs ≡ length ys → xs ++ us ≡ ys ++ vs → (xs ≡ ys) × (us ≡ vs)
front_same xs ys us vs long e = (
  sym (take-append_seam xs us) ∙ ap (λ (l : List ℕ). take (length xs) l) e ∙ ap (λ (n : ℕ). take n (ys ++ vs)) long ∙ take-append_seam ys vs,
  sym (drop-append_seam xs us) ∙ ap (λ (l : List ℕ). drop (length xs) l) e ∙ ap (λ (n : ℕ). drop n (ys ++ vs)) long ∙ drop-append_seam ys vs,
)

two_bytes_same : (m n : ℕ) → m < 2 ^ 16 → n < 2 ^ 16 → m % 256 ≡ n % 256 → m / 256 % 256 ≡ n / 256 % 256 → m ≡ n
two_bytes_same m n p q low high = omega (arith, p, q, low, high)

abbrev measured : ℕ → ℕ → List ℕ → Measured
measured index value_type value = record { index = index; value_type = value_type; value = value }

pub same_block : (one other : Measured) → one.index ≡ other.index → one.value_type ≡ other.value_type → one.value ≡ other.value → one ≡ other
same_block one other e f g =
    ap (λ (i : ℕ). measured i one.value_type one.value) e ∙ ap (λ (t : ℕ). measured other.index t one.value) f
    ∙ ap (λ (v : List ℕ). measured other.index other.value_type v) g

-- the first block and what is behind it
pub first_same : (one other : Measured) (rest behind : List ℕ) → IsBlock one → IsBlock other
    → block_bytes (spec_of one) ++ rest ≡ block_bytes (spec_of other) ++ behind → (one ≡ other) × (rest ≡ behind)
first_same one other rest behind p q e =
    let index : one.index ≡ other.index = cc in
    let value_type : one.value_type ≡ other.value_type = cc in
    let low : length one.value % 256 ≡ length other.value % 256 = cc in
    let high : length one.value / 256 % 256 ≡ length other.value / 256 % 256 = cc in
    let long : length one.value ≡ length other.value = two_bytes_same (length one.value) (length other.value) (omega (arith, p)) (omega (arith, q)) low high in
    let values : one.value ++ rest ≡ other.value ++ behind = cc in
    let parts = front_same one.value other.value rest behind long values in
    (same_block one other index value_type parts.0, parts.1)

-- in front of a rest, a block and its followers
pub front_block : (block : Measured) (blocks : List Measured) (rest : List ℕ)
    → bytes_of (block ∷ blocks) ++ rest ≡ block_bytes (spec_of block) ++ (bytes_of blocks ++ rest)
front_block block blocks rest = append_assoc (block_bytes (spec_of block)) (bytes_of blocks) rest

pub one_reading : (blocks others : List Measured) (rest behind : List ℕ) → AllByRecursion IsBlock blocks → AllByRecursion IsBlock others
    → bytes_of blocks ++ rest ≡ bytes_of others ++ behind → (BeginsWithBlock rest → ⊥) → (BeginsWithBlock behind → ⊥)
    → (blocks ≡ others) × (rest ≡ behind)
one_reading [] [] rest behind p q e f g = (refl, e)
one_reading [] (other ∷ others) rest behind p q e f g =
    absurd (f (other, bytes_of others ++ behind, (q.0, e ∙ front_block other others behind)))
one_reading (block ∷ blocks) [] rest behind p q e f g =
    absurd (g (block, bytes_of blocks ++ rest, (p.0, sym e ∙ front_block block blocks rest)))
one_reading (block ∷ blocks) (other ∷ others) rest behind p q e f g =
    let first = first_same block other (bytes_of blocks ++ rest) (bytes_of others ++ behind) p.0 q.0
    (sym (front_block block blocks rest) ∙ e ∙ front_block other others behind) in
    let more = one_reading blocks others rest behind p.1 q.1 first.1 f g in
    (cons_same block other blocks others first.0 more.0, more.1)
  where
    cons_same : (x y : Measured) (xs ys : List Measured) → x ≡ y → xs ≡ ys → (x ∷ xs) ≡ (y ∷ ys)
    cons_same x y xs ys a b = cc

-- no block begins where nothing is left
pub nothing_begins : BeginsWithBlock [] → ⊥
nothing_begins found = let e : [] ≡ block_bytes (spec_of found.0) ++ found.1 = found.2.1 in absurd cc

map_append : (xs ys : List Measured) → map spec_of (xs ++ ys) ≡ map spec_of xs ++ map spec_of ys
map_append [] ys = refl
map_append (x ∷ xs) ys = let e = map_append xs ys in cc e

pub bytes_append : (xs ys : List Measured) → bytes_of (xs ++ ys) ≡ bytes_of xs ++ bytes_of ys
bytes_append xs ys = ap record_of (map_append xs ys) ∙ record_append (map spec_of xs) (map spec_of ys)
