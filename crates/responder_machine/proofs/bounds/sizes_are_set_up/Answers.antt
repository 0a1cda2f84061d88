use Rattle.responder_machine.proofs.Sizes.{sizes_set_up, session_sizes_set_up}
use Rattle.responder_machine.proofs.bounds.sizes_are_set_up.Goals as goal

pub returns-clause-connection : goal.returns-clause-connection
returns-clause-connection c = sizes_set_up

pub returns-clause-session : goal.returns-clause-session
returns-clause-session c = session_sizes_set_up
