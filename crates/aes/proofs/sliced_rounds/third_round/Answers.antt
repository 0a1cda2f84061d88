use Rattle.aes.proofs.SlicedRounds.{third_is}
use Rattle.aes.proofs.sliced_rounds.third_round.Goals as goal

pub returns : goal.returns
returns c =
    third_is c.args.s.now c.substituted.result c.mixed_turned_thrice.result c.args.key.now c.add.result c.substituted.ensures (c.mixed_turned_thrice.ensures) c.add.ensures
