use Rattle.responder_machine.proofs.Runs.{runs_bounded}
use Rattle.responder_machine.proofs.end_laws.runs_are_bounded.Goals as goal

pub returns : goal.returns
returns c = runs_bounded
