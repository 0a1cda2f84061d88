use Rattle.responder_machine.proofs.CommonCaps.{common_negotiated}
use Rattle.responder_machine.proofs.bounds.common_is_negotiated.Goals as goal

pub returns : goal.returns
returns c = common_negotiated
