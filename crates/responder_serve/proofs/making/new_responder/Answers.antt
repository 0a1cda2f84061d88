use Rattle.std.proofs.Common.{subst, sym}
use Rattle.responder_serve.proofs.Faults.{responder_cause}
use Rattle.responder_serve.specs.Told.{IsEarly}
use Rattle.responder_serve.specs.declared.fault.ServeFault.{ServeFault}
use Rattle.responder_serve.proofs.making.new_responder.Goals as goal

pub returns-in-Err-clause-fault : goal.returns-in-Err-clause-fault
returns-in-Err-clause-fault c =
    subst (λ (f : ServeFault). IsEarly c.args.config.now f) (sym c.fault_of_responder.ensures) (responder_cause c.args.config.now c.in-Err.fault c.in-Err.ensures.fault)
