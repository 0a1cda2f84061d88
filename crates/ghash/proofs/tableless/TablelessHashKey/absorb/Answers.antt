use Rattle.std.proofs.Common.{◌∙◌, ◌++◌, ◌∷◌, [], ℕ, List, ap, sym, append_assoc, zero-add}
use Rattle.std.specs.Prelude.{map}
use Rattle.std.specs.List.{range_with_len}
use Rattle.std.proofs.lemmas.List.FromFn.{map-range_with_len_more}
use Rattle.ghash.specs.Hash.{ghash, block_at}
use Rattle.ghash.proofs.tableless.TablelessHashKey.absorb.Goals as goal

pub loop-i-preserved : goal.loop-i-preserved
loop-i-preserved c = λ before e.
    let f = block_at c.args.bytes.now in
    let done = map f (range_with_len 0 c.loop-i.i) in
    c.absorb_block-hash.ensures (before ++ done) (c.loop-i.invariant before e)
    ∙ ap (ghash c.args.self.now)
    (ap (λ (b : ℕ). (before ++ done) ++ b ∷ []) c.block_at.ensures
    ∙ append_assoc before done (f c.loop-i.i ∷ [])
    ∙ ap (λ (xs : List ℕ). before ++ xs) (sym (map-range_with_len_more f 0 c.loop-i.i c.loop-i.i (zero-add c.loop-i.i))))
