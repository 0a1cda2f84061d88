use Rattle.aes.proofs.SlicedRounds.{last_is}
use Rattle.aes.proofs.sliced_rounds.last_round.Goals as goal

pub returns : goal.returns
returns c =
    last_is c.args.s.now c.substituted.result c.shifted_twice.result c.args.key.now c.add.result c.substituted.ensures c.shifted_twice.ensures c.add.ensures
