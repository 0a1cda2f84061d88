use Rattle.std.proofs.Common.{refl, arith}
use Rattle.aes.specs.Slices.{next_place}
use Rattle.aes.proofs.Sources.{Input, Right, Left, Masked, Sum, value, sources, toggle, merged, turned_at}
use Rattle.aes.proofs.turning.next_turned_thrice_of.Goals as goal

pub returns : goal.returns
unfolding value sources toggle merged
returns c =
    let x = Input 0 in
    λ p h. turned_at c.args.x c.ranges.x.fits (Sum (Masked 0xf000f000f000f000 (Sum (Left 28 x) (Right 36 x))) (Masked 0x0fff0fff0fff0fff (Sum (Left 12 x) (Right 52 x)))) (next_place 3) refl p h (omega arith)
