use Rattle.std.proofs.Common.{refl}
use Rattle.aes.specs.Slices.{next_place, second_place}
use Rattle.aes.proofs.Mixes.{mix_is}
use Rattle.aes.proofs.mixing.mixed.Goals as goal

pub returns : goal.returns
returns c =
    mix_is 0 (next_place 0) (second_place 0) refl refl refl c.args.s.now c.next-next.result c.add-sum.result c.second.result c.combined.result
    c.next-next.ensures c.add-sum.ensures c.second.ensures c.combined.ensures
