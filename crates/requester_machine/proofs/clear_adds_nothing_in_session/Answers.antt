use Rattle.requester_machine.proofs.Adding.{clear_in_session}
use Rattle.requester_machine.proofs.clear_adds_nothing_in_session.Goals as goal

pub returns : goal.returns
returns c = clear_in_session
