use Rattle.aes.proofs.SlicedRounds.{first_is}
use Rattle.aes.proofs.sliced_rounds.first_round.Goals as goal

pub returns : goal.returns
returns c =
    first_is c.args.s.now c.substituted.result c.mixed_turned_once.result c.args.key.now c.add.result c.substituted.ensures (c.mixed_turned_once.ensures) c.add.ensures
