use Rattle.requester_machine.proofs.Ids.{fresh}
use Rattle.requester_machine.proofs.new_session_is_fresh.Goals as goal

pub returns : goal.returns
returns c = fresh
