use Rattle.std.proofs.Common.{subst, sym}
use Rattle.link_world.proofs.Made.{requester_cause}
use Rattle.link_world.specs.Making.{IsAskerFault}
use Rattle.link_world.specs.declared.fault.WorldFault.{WorldFault}
use Rattle.link_world.proofs.making.asker_of.Goals as goal

pub returns-in-Err : goal.returns-in-Err
returns-in-Err c = record {
  stands = tt;
  sound = tt;
  fault = subst (λ (f : WorldFault). IsAskerFault c.args.responder.number c.args.q.now f) (sym c.fault_of_requester.ensures)
      (requester_cause c.args.responder.number c.args.q.now c.in-Err.fault c.in-Err.ensures.fault);
}
