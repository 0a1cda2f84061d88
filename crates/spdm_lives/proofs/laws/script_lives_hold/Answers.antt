use Rattle.spdm_lives.proofs.LivesHold.{script_lives_hold}
use Rattle.spdm_lives.proofs.laws.script_lives_hold.Goals as goal

pub returns : goal.returns
returns c = script_lives_hold
