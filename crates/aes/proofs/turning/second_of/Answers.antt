use Rattle.std.proofs.Common.{refl, arith}
use Rattle.aes.specs.Slices.{second_place}
use Rattle.aes.proofs.Sources.{Input, Right, Left, Sum, value, sources, toggle, merged, turned_at}
use Rattle.aes.proofs.turning.second_of.Goals as goal

pub returns : goal.returns
unfolding value sources toggle merged
returns c =
    let x = Input 0 in
    λ p h. turned_at c.args.x c.ranges.x.fits ((Sum (Left 32 x) (Right 32 x))) (second_place 0) refl p h (omega arith)
