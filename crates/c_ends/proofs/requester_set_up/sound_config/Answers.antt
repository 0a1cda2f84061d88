use Rattle.std.proofs.Common.{rules, sym}
use Rattle.c_ends.proofs.Faults.{requester_fault}
use Rattle.c_ends.proofs.requester_set_up.sound_config.Goals as goal

pub returns-in-Some-fault-clause-fault : goal.returns-in-Some-fault-clause-fault
returns-in-Some-fault-clause-fault c =
    (search rules, requester_fault c.args.config.now c.config_of-own.result c.in-Some-fault.fault c.config_of-own.ensures (sym c.in-Some-fault.ensures))
