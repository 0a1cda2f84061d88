use Rattle.responder_machine.proofs.Staged.{made_staged}
use Rattle.responder_machine.proofs.laws.made_is_staged.Goals as goal

pub returns : goal.returns
returns c = made_staged
