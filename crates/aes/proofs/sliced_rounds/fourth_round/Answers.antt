use Rattle.aes.proofs.SlicedRounds.{fourth_is}
use Rattle.aes.proofs.sliced_rounds.fourth_round.Goals as goal

pub returns : goal.returns
returns c =
    fourth_is c.args.s.now c.substituted.result c.mixed.result c.args.key.now c.add.result c.substituted.ensures (c.mixed.ensures) c.add.ensures
