use Rattle.responder_machine.proofs.Sizes.{sizes_known}
use Rattle.responder_machine.proofs.laws.sizes_are_known.Goals as goal

pub returns : goal.returns
returns c = sizes_known
