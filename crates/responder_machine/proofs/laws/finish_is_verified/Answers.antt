use Rattle.responder_machine.proofs.Verified.{finish_verified}
use Rattle.responder_machine.proofs.laws.finish_is_verified.Goals as goal

pub returns : goal.returns
returns c = finish_verified
