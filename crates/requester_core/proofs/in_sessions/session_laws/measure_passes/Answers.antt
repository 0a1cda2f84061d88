use Rattle.requester_core.proofs.SessionsApart.{measure_passes}
use Rattle.requester_core.proofs.in_sessions.session_laws.measure_passes.Goals as goal

pub returns : goal.returns
returns c = measure_passes
