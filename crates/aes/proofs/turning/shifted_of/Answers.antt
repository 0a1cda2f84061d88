use Rattle.std.proofs.Common.{refl, arith}
use Rattle.aes.specs.Slices.{shifted_place}
use Rattle.aes.proofs.Sources.{Input, Right, Left, Masked, Sum, value, sources, toggle, merged, turned_at}
use Rattle.aes.proofs.turning.shifted_of.Goals as goal

pub returns : goal.returns
unfolding value sources toggle merged
returns c =
    let x = Input 0 in
    λ p h. turned_at c.args.x c.ranges.x.fits (Sum (Sum x (Masked 0x000000ff000000ff (Sum (Right 8 x) x))) (Left 8 (Masked 0x000000ff000000ff (Sum (Right 8 x) x)))) (shifted_place) refl p h (omega arith)
