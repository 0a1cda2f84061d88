use Rattle.requester_machine.proofs.Bounded.{sessions}
use Rattle.requester_machine.proofs.bound_laws.sessions_are_bounded.Goals as goal

pub returns : goal.returns
returns c = sessions
