use Rattle.spdm_lives.proofs.LivesHold.{text_lives_hold}
use Rattle.spdm_lives.proofs.laws.text_lives_hold.Goals as goal

pub returns : goal.returns
returns c = text_lives_hold
