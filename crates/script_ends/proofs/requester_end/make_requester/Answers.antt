use Rattle.script_ends.proofs.Made.{requester_fault}
use Rattle.script_ends.proofs.requester_end.make_requester.Goals as goal

pub returns-in-Err-clause-fault : goal.returns-in-Err-clause-fault
returns-in-Err-clause-fault c =
    requester_fault c.args.responder.number c.args.q.now c.requester_config-own.result c.in-Err.fault c.requester_config-own.ensures c.in-Err.ensures.fault
