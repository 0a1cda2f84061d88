-- Blocks that a summary is about.
use Rattle.std.proofs.Common.{◌≡◌, ℕ, ◌+◌, ◌<◌, ◌≤◌, arith, Bool, true, false, cond, List, [], ◌∷◌, ◌++◌, length, take, refl, sym, ap, ◌∙◌}
use Rattle.std.specs.Prelude.{◌||◌, ◌==◌, slice_index_or}
use Rattle.std.specs.List.{list_any}
use Rattle.std.proofs.lemmas.List.Elements.{filter_more}
use Rattle.spdm_grammar.specs.declared.told.block_spec.BlockSpec.{BlockSpec}
use Rattle.std.proofs.Math.Seq.{take-length}
use Rattle.spdm_basis.specs.declared.values.hash_alg.HashAlg.{HashAlg}
use Rattle.running_hash.specs.Hash.{Hash, digest_by, hash_of}
use Rattle.measurements.specs.Blocks.{record_of}
use Rattle.measurements.specs.Summaries.{summarized, hash_of_blocks}
use Rattle.measurements.proofs.Lengths.{record_append}

-- the summary is about the block
abbrev pub is_chosen : ℕ → BlockSpec → Bool
is_chosen kind block = kind == 255 || block.tcb

pub one_more : (kind i : ℕ) (blocks : List BlockSpec) (block : BlockSpec) → i < length blocks → block ≡ slice_index_or blocks i block → record_of (summarized kind (take (i + 1) blocks)) ≡ record_of (summarized kind (take i blocks)) ++ record_of (summarized kind (block ∷ []))
one_more kind i blocks block h e =
    ap record_of (filter_more (is_chosen kind) blocks i block h)
    ∙ record_append (summarized kind (take i blocks)) (cond (is_chosen kind (slice_index_or blocks i block)) (slice_index_or blocks i block ∷ []) [])
    ∙ ap (λ (b : BlockSpec). record_of (summarized kind (take i blocks)) ++ record_of (cond (is_chosen kind b) (b ∷ []) [])) (sym e)

none_head : (b : Bool) (block : BlockSpec) (kind : ℕ) (blocks : List BlockSpec) → (list_any (is_chosen kind) blocks ≡ false → summarized kind blocks ≡ []) → (b || list_any (is_chosen kind) blocks) ≡ false → cond b (block ∷ summarized kind blocks) (summarized kind blocks) ≡ []
none_head true block kind blocks again h = absurd cc
none_head false block kind blocks again h = again h

pub none_chosen : (kind : ℕ) (blocks : List BlockSpec) → list_any (is_chosen kind) blocks ≡ false → summarized kind blocks ≡ []
none_chosen kind [] h = refl
none_chosen kind (block ∷ blocks) h = none_head (is_chosen kind block) block kind blocks (none_chosen kind blocks) h

some_head : (b : Bool) (hash : Hash) (block : BlockSpec) (kind : ℕ) (blocks : List BlockSpec) → (list_any (is_chosen kind) blocks ≡ true → hash_of_blocks hash (summarized kind blocks) ≡ hash.digest (record_of (summarized kind blocks))) → (b || list_any (is_chosen kind) blocks) ≡ true → hash_of_blocks hash (cond b (block ∷ summarized kind blocks) (summarized kind blocks)) ≡ hash.digest (record_of (cond b (block ∷ summarized kind blocks) (summarized kind blocks)))
some_head true hash block kind blocks again h = refl
some_head false hash block kind blocks again h = again h

pub some_chosen : (hash : Hash) (kind : ℕ) (blocks : List BlockSpec) → list_any (is_chosen kind) blocks ≡ true → hash_of_blocks hash (summarized kind blocks) ≡ hash.digest (record_of (summarized kind blocks))
some_chosen hash kind [] h = absurd cc
some_chosen hash kind (block ∷ blocks) h = some_head (is_chosen kind block) hash block kind blocks (some_chosen hash kind blocks) h

-- the hash over all places is the summary, where the summary is about some block
pub summary_is : (hash : HashAlg) (function : HashAlg) (kind i : ℕ) (blocks : List BlockSpec) (some : Bool) (result : List ℕ) →
    result ≡ digest_by function (record_of (summarized kind (take i blocks))) → function ≡ hash → i ≤ length blocks → length blocks ≤ i →
    some ≡ list_any (is_chosen kind) blocks → some ≡ true →
    result ≡ hash_of_blocks (hash_of hash) (summarized kind blocks)
summary_is hash function kind i blocks some result value same low high any chosen =
    let e : i ≡ length blocks = omega (arith, low, high) in
    let whole : take i blocks ≡ blocks = ap (λ (n : ℕ). take n blocks) e ∙ take-length blocks in
    value
    ∙ ap (λ (f : HashAlg). digest_by f (record_of (summarized kind (take i blocks)))) same
    ∙ ap (λ (bs : List BlockSpec). digest_by hash (record_of (summarized kind bs))) whole
    ∙ sym (some_chosen (hash_of hash) kind blocks (sym any ∙ chosen))
