use Rattle.requester_core.proofs.SessionsApart.{clear_passes}
use Rattle.requester_core.proofs.in_sessions.session_laws.clear_passes.Goals as goal

pub returns : goal.returns
returns c = clear_passes
