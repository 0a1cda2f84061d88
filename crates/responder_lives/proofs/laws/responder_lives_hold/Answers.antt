use Rattle.responder_lives.proofs.LivesHold.{responder_lives_hold}
use Rattle.responder_lives.proofs.laws.responder_lives_hold.Goals as goal

pub returns : goal.returns
returns c = responder_lives_hold
