use Rattle.aes.proofs.SlicedRounds.{second_is}
use Rattle.aes.proofs.sliced_rounds.second_round.Goals as goal

pub returns : goal.returns
returns c =
    second_is c.args.s.now c.substituted.result c.mixed_turned_twice.result c.args.key.now c.add.result c.substituted.ensures (c.mixed_turned_twice.ensures) c.add.ensures
