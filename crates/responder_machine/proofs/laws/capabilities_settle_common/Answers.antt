use Rattle.responder_machine.proofs.Settled.{common_settled}
use Rattle.responder_machine.proofs.laws.capabilities_settle_common.Goals as goal

pub returns : goal.returns
returns c = common_settled
