-- How long blocks are together, and how many there are.
use Rattle.std.proofs.Common.{◌≡◌, ℕ, zero, suc, ◌+◌, ◌<◌, ◌≤◌, Bool, true, false, cond, eqb, List, [], ◌∷◌, ◌++◌, length, drop, nat_le, Option, Some, None, refl, sym, ap, ◌∙◌, append_assoc, arith}
use Rattle.std.proofs.lemmas.Bool.{ne_eqb, eqb-true}
use Rattle.std.proofs.Math.Seq.{drop-nil}
use Rattle.std.proofs.lemmas.List.{length-append}
use Rattle.spdm_grammar.specs.declared.told.block_spec.BlockSpec.{BlockSpec}
use Rattle.measurements.specs.Blocks.{record_of, record_len, block_bytes, block_of, at_most_one, up_to}

pub len_append : (xs ys : List BlockSpec) → record_len (xs ++ ys) ≡ record_len xs + record_len ys
len_append [] ys = omega arith
len_append (block ∷ xs) ys = omega (arith, len_append xs ys)

-- the block in front does not have the index that is looked for
apart_len : (b : Bool) (block : BlockSpec) (o : Option BlockSpec) → b ≡ false → record_len (at_most_one (cond b (Some block) o)) ≡ record_len (at_most_one o)
apart_len true block o h = absurd cc
apart_len false block o h = refl

-- a block in front counts for nothing below its index
len_before : (n : ℕ) (block : BlockSpec) (blocks : List BlockSpec) → n < block.index → record_len (up_to n (block ∷ blocks)) ≡ record_len (up_to n blocks)
unfolding up_to
len_before zero block blocks h = refl
len_before (suc n) block blocks h =
    omega (
      arith,
      len_append (up_to n (block ∷ blocks)) (at_most_one (block_of (n + 1) (block ∷ blocks))),
      len_append (up_to n blocks) (at_most_one (block_of (n + 1) blocks)),
      len_before n block blocks (omega (arith, h)),
      apart_len (eqb block.index (n + 1)) block (block_of (n + 1) blocks) (ne_eqb block.index (n + 1) (λ e. omega (arith, h, e))),
    )

front_step : (b : Bool) (block : BlockSpec) (o : Option BlockSpec) (with_it without : ℕ) → (b ≡ true → with_it ≡ without) → with_it ≤ 7 + length block.value + without → with_it + record_len (at_most_one (cond b (Some block) o)) ≤ 7 + length block.value + (without + record_len (at_most_one o))
front_step true block o with_it without same h = omega (arith, same refl)
front_step false block o with_it without same h = omega (arith, h)

-- a block in front adds its own size at most
len_front : (n : ℕ) (block : BlockSpec) (blocks : List BlockSpec) → record_len (up_to n (block ∷ blocks)) ≤ 7 + length block.value + record_len (up_to n blocks)
unfolding up_to
len_front zero block blocks = omega arith
len_front (suc n) block blocks =
    omega (
      arith,
      len_append (up_to n (block ∷ blocks)) (at_most_one (block_of (n + 1) (block ∷ blocks))),
      len_append (up_to n blocks) (at_most_one (block_of (n + 1) blocks)),
      front_step (eqb block.index (n + 1)) block (block_of (n + 1) blocks) (record_len (up_to n (block ∷ blocks))) (record_len (up_to n blocks))
          (λ e. len_before n block blocks (omega (arith, eqb-true block.index (n + 1) e)))
          (len_front n block blocks),
    )

len_none : (n : ℕ) → record_len (up_to n []) ≡ 0
unfolding up_to
len_none zero = refl
len_none (suc n) = omega (arith, len_append (up_to n []) [], len_none n)

-- by index there are no more bytes than in the blocks as they came
pub len_by_index : (n : ℕ) (blocks : List BlockSpec) → record_len (up_to n blocks) ≤ record_len blocks
len_by_index n [] = omega (arith, len_none n)
len_by_index n (block ∷ blocks) = omega (arith, len_front n block blocks, len_by_index n blocks)

one_or_none : (o : Option BlockSpec) → length (at_most_one o) ≤ 1
one_or_none None = omega arith
one_or_none (Some block) = omega arith

pub few : (n : ℕ) (blocks : List BlockSpec) → length (up_to n blocks) ≤ n
unfolding up_to
few zero blocks = omega arith
few (suc n) blocks = omega (arith, few n blocks, one_or_none (block_of (n + 1) blocks), length-append (up_to n blocks) (at_most_one (block_of (n + 1) blocks)))

-- a block that is found
found_head : (b : Bool) (index : ℕ) (block found : BlockSpec) (blocks : List BlockSpec) → (block_of index blocks ≡ Some found → 7 + length found.value ≤ record_len blocks) → cond b (Some block) (block_of index blocks) ≡ Some found → 7 + length found.value ≤ record_len (block ∷ blocks)
found_head true index block found blocks again h =
    let same : block ≡ found = cc in
    omega (arith, ap (λ (b : BlockSpec). length b.value) same)
found_head false index block found blocks again h = omega (arith, again h)

pub found_within : (index : ℕ) (blocks : List BlockSpec) (found : BlockSpec) → block_of index blocks ≡ Some found → 7 + length found.value ≤ record_len blocks
found_within index [] found h = absurd cc
found_within index (block ∷ blocks) found h = found_head (eqb block.index index) index block found blocks (found_within index blocks found) h

pub record_append : (xs ys : List BlockSpec) → record_of (xs ++ ys) ≡ record_of xs ++ record_of ys
record_append [] ys = refl
record_append (block ∷ xs) ys = ap (λ (l : List ℕ). block_bytes block ++ l) (record_append xs ys) ∙ sym (append_assoc (block_bytes block) (record_of xs) (record_of ys))

-- from one place to the next there are no more bytes
pub len_drop_next : (i : ℕ) (blocks : List BlockSpec) → record_len (drop (i + 1) blocks) ≤ record_len (drop i blocks)
len_drop_next i [] = omega (arith, ap record_len (drop-nil (i + 1)), ap record_len (drop-nil i))
len_drop_next zero (block ∷ blocks) = omega arith
len_drop_next (suc i) (block ∷ blocks) =
    let e : suc i + 1 ≡ suc (i + 1) = omega arith in
    omega (arith, ap (λ (k : ℕ). record_len (drop k (block ∷ blocks))) e, len_drop_next i blocks)

-- what a test of the whole length tells
pub fit_tells : (n : ℕ) (fits : Bool) → fits ≡ nat_le n 4054 → fits ≡ true → n ≤ 4054
fit_tells n fits e h = grind arith

-- the block that is found fits into an empty frame
pub found_fits : (index : ℕ) (blocks all : List BlockSpec) (found : BlockSpec) (out : List ℕ) → block_of index blocks ≡ Some found → blocks ≡ all → record_len all ≤ 4054 → out ≡ [] → length out + (7 + length found.value) ≤ 4054
found_fits index blocks all found out h same within empty =
    omega (arith, found_within index blocks found h, ap record_len same, within, ap length empty)
