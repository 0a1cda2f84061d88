use Rattle.std.proofs.Common.{refl}
use Rattle.aes.specs.Slices.{next_place, second_place}
use Rattle.aes.proofs.Mixes.{mix_is}
use Rattle.aes.proofs.mixing.mixed_turned_once.Goals as goal

pub returns : goal.returns
returns c =
    mix_is 1 (next_place 1) (second_place 1) refl refl refl c.args.s.now c.next_turned_once-next.result c.add-sum.result c.second_turned.result c.combined.result
    c.next_turned_once-next.ensures c.add-sum.ensures c.second_turned.ensures c.combined.ensures
