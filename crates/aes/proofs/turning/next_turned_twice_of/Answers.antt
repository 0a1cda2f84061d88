use Rattle.std.proofs.Common.{refl, arith}
use Rattle.aes.specs.Slices.{next_place}
use Rattle.aes.proofs.Sources.{Input, Right, Left, Masked, Sum, value, sources, toggle, merged, turned_at}
use Rattle.aes.proofs.turning.next_turned_twice_of.Goals as goal

pub returns : goal.returns
unfolding value sources toggle merged
returns c =
    let x = Input 0 in
    λ p h. turned_at c.args.x c.ranges.x.fits (Sum (Masked 0xff00ff00ff00ff00 (Sum (Left 24 x) (Right 40 x))) (Masked 0x00ff00ff00ff00ff (Sum (Left 8 x) (Right 56 x)))) (next_place 2) refl p h (omega arith)
