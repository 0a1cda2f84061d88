use Rattle.responder_lives.proofs.LivesHold.{script_restarts_hold}
use Rattle.responder_lives.proofs.laws.script_restarts_hold.Goals as goal

pub returns : goal.returns
returns c = script_restarts_hold
