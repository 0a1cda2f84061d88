use Rattle.requester_machine.proofs.Runs.{runs_bounded}
use Rattle.requester_machine.proofs.end_laws.runs_are_bounded.Goals as goal

pub returns : goal.returns
returns c = runs_bounded
