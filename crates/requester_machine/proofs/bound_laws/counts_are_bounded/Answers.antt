use Rattle.requester_machine.proofs.Bounded.{counts}
use Rattle.requester_machine.proofs.bound_laws.counts_are_bounded.Goals as goal

pub returns : goal.returns
returns c = counts
