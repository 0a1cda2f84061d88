use Rattle.std.proofs.Common.{ℕ, ◌≡◌, ◌+◌, ◌<◌, ◌∷◌, [], List, get_or}
use Rattle.std.specs.Int.{bit_at}
use Rattle.aes.specs.Slices.{spread_place}
use Rattle.aes.proofs.Packs.{packed_is, below_four}
use Rattle.aes.proofs.packing.packed.Goals as goal

pub returns : goal.returns
returns c =
    let lows : List ℕ = c.spread-a.result.0 ∷ c.spread-b.result.0 ∷ c.spread-c.result.0 ∷ c.spread-d.result.0 ∷ [] in
    let highs : List ℕ = c.spread-a.result.1 ∷ c.spread-b.result.1 ∷ c.spread-c.result.1 ∷ c.spread-d.result.1 ∷ [] in
    let at = λ (b : ℕ). get_or c.args.blocks.now b 0 in
    let low = below_four (λ (b : ℕ). (p : ℕ) → p < 64 → bit_at (get_or lows b 0) p ≡ bit_at (at b) (spread_place p))
    c.spread-a.ensures.low c.spread-b.ensures.low c.spread-c.ensures.low c.spread-d.ensures.low in
    let high = below_four (λ (b : ℕ). (p : ℕ) → p < 64 → bit_at (get_or highs b 0) p ≡ bit_at (at b) (spread_place p + 4))
    c.spread-a.ensures.high c.spread-b.ensures.high c.spread-c.ensures.high c.spread-d.ensures.high in
    λ b h. packed_is c.transposed-lower.result c.transposed-upper.result lows highs (at b) b h c.transposed-lower.ensures c.transposed-upper.ensures (low b h) (high b h)
