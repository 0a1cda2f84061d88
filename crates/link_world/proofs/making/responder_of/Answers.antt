use Rattle.std.proofs.Common.{subst, sym}
use Rattle.link_world.proofs.Made.{responder_cause}
use Rattle.link_world.specs.Configured.{IsCause}
use Rattle.link_world.specs.declared.fault.WorldFault.{WorldFault}
use Rattle.link_world.proofs.making.responder_of.Goals as goal

pub returns-in-Err : goal.returns-in-Err
returns-in-Err c = record {
  stands = tt;
  sound = tt;
  fault = subst (λ (f : WorldFault). IsCause c.args.config.now f) (sym c.fault_of_responder.ensures)
      (responder_cause c.args.config.now c.in-Err.fault c.in-Err.ensures.fault);
}
