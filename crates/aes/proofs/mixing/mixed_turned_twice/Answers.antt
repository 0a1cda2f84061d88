use Rattle.std.proofs.Common.{refl}
use Rattle.aes.specs.Slices.{next_place, second_place}
use Rattle.aes.proofs.Mixes.{mix_is}
use Rattle.aes.proofs.mixing.mixed_turned_twice.Goals as goal

pub returns : goal.returns
returns c =
    mix_is 2 (next_place 2) (second_place 0) refl refl refl c.args.s.now c.next_turned_twice-next.result c.add-sum.result c.second.result c.combined.result
    c.next_turned_twice-next.ensures c.add-sum.ensures c.second.ensures c.combined.ensures
