use Rattle.std.proofs.Common.{refl, arith}
use Rattle.aes.specs.Slices.{second_place}
use Rattle.aes.proofs.Sources.{Input, Right, Left, Masked, Sum, value, sources, toggle, merged, turned_at}
use Rattle.aes.proofs.turning.second_turned_of.Goals as goal

pub returns : goal.returns
unfolding value sources toggle merged
returns c =
    let x = Input 0 in
    λ p h. turned_at c.args.x c.ranges.x.fits (Sum (Masked 0xff00ff00ff00ff00 (Sum (Left 40 x) (Right 24 x))) (Masked 0x00ff00ff00ff00ff (Sum (Left 24 x) (Right 40 x)))) (second_place 1) refl p h (omega arith)
