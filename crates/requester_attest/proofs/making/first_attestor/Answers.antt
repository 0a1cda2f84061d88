use Rattle.std.proofs.Common.{arith, refl, subst, sym}
use Rattle.requester_attest.proofs.Steps.{first_stands}
use Rattle.requester_drive.proofs.Faults.{first_is, requester_cause}
use Rattle.requester_drive.specs.Told.{IsEarly}
use Rattle.requester_drive.specs.declared.fault.DriveFault.{DriveFault}
use Rattle.requester_attest.proofs.making.first_attestor.Goals as goal

pub returns-in-Ok-clause-stands : goal.returns-in-Ok-clause-stands
returns-in-Ok-clause-stands c = λ a is.
    let config = c.args.config.now in
    let q = c.q-item.result in
    first_stands config c.args.policy c.args.seed c.args.boot q c.over.result a (first_is c.as_slice.result.now config.requesters q c.as_slice.ensures (omega (arith, c.in-len1-up.len_at_least)) c.q-item.is) (c.over.ensures _ c.in-Ok.ensures.stands refl) is

pub returns-in-Err-clause-fault : goal.returns-in-Err-clause-fault
returns-in-Err-clause-fault c =
    let config = c.args.config.now in
    let q = c.q-item.result in
    subst (λ (f : DriveFault). IsEarly config f) (sym c.fault_of_requester.ensures)
    (requester_cause config q c.in-Err.fault (first_is c.as_slice.result.now config.requesters q c.as_slice.ensures (omega (arith, c.in-len1-up.len_at_least)) c.q-item.is) c.in-Err.ensures.fault)
