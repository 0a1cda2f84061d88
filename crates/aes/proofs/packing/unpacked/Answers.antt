use Rattle.std.proofs.Common.{ℕ, ◌≡◌, ◌∷◌, [], List, get_or, arith}
use Rattle.aes.specs.Slices.{block_at}
use Rattle.aes.specs.Words.{block_bytes}
use Rattle.aes.proofs.Packs.{unpacked_is, below_four}
use Rattle.aes.proofs.packing.unpacked.Goals as goal

pub returns : goal.returns
returns c =
    let s = c.args.s.now in
    let lower = c.transposed-lower.result in
    let upper = c.transposed-upper.result in
    let is = unpacked_is s lower upper in
    let blocks : List ℕ = c.gathered.result ∷ c.gathered-2.result ∷ c.gathered-3.result ∷ c.gathered-4.result ∷ [] in
    below_four (λ (b : ℕ). block_bytes (get_or blocks b 0) ≡ block_at 0 s b)
    (is c.gathered.result 0 (omega arith) c.transposed-lower.ensures c.transposed-upper.ensures c.gathered.ensures)
    (is c.gathered-2.result 1 (omega arith) c.transposed-lower.ensures c.transposed-upper.ensures c.gathered-2.ensures)
    (is c.gathered-3.result 2 (omega arith) c.transposed-lower.ensures c.transposed-upper.ensures c.gathered-3.ensures)
    (is c.gathered-4.result 3 (omega arith) c.transposed-lower.ensures c.transposed-upper.ensures c.gathered-4.ensures)
