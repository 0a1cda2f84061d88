use Rattle.std.proofs.Common.{refl, arith}
use Rattle.aes.specs.Slices.{next_place}
use Rattle.aes.proofs.Sources.{Input, Right, Left, Masked, Sum, value, sources, toggle, merged, turned_at}
use Rattle.aes.proofs.turning.next_turned_once_of.Goals as goal

pub returns : goal.returns
unfolding value sources toggle merged
returns c =
    let x = Input 0 in
    λ p h. turned_at c.args.x c.ranges.x.fits (Sum (Masked 0xfff0fff0fff0fff0 (Sum (Left 20 x) (Right 44 x))) (Masked 0x000f000f000f000f (Sum (Left 4 x) (Right 60 x)))) (next_place 1) refl p h (omega arith)
