use Rattle.responder_machine.proofs.Within.{connection_within, session_within}
use Rattle.responder_machine.proofs.bounds.counts_are_bounded.Goals as goal

pub returns-clause-connection : goal.returns-clause-connection
returns-clause-connection c = connection_within

pub returns-clause-session : goal.returns-clause-session
returns-clause-session c = session_within
