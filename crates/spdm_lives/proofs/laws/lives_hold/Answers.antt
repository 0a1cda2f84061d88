use Rattle.spdm_lives.proofs.LivesHold.{lives_hold}
use Rattle.spdm_lives.proofs.laws.lives_hold.Goals as goal

pub returns : goal.returns
returns c = lives_hold
