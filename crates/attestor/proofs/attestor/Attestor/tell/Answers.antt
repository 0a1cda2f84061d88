use Rattle.std.proofs.Common.{Option, ap, refl}
use Rattle.std.specs.Prelude.{◌||◌, is_none}
use Rattle.attestor.proofs.Steps.{told_stands}
use Rattle.requester_core.specs.Joined.{command_of}
use Rattle.spdm_grammar.specs.declared.told.command_fault.CommandFault.{CommandFault}
use Rattle.attestor.proofs.attestor.Attestor.tell.Goals as goal

pub returns-in-Ok-clause-told : goal.returns-in-Ok-clause-told
returns-in-Ok-clause-told c = λ a stands goes.
    let seen = c.args.self.now in
    let told = c.in-Ok.ensures a.requester stands.requester in
    record {
      fault = told.fault;
      sent = told.sent;
      stands = told_stands seen _ a (command_of c.args.command) stands goes told.stands refl refl (ap (λ (o : Option CommandFault). is_none o || seen.is_waiting) told.fault);
    }

pub returns-in-Err-clause-told : goal.returns-in-Err-clause-told
returns-in-Err-clause-told c = λ a stands goes.
    let seen = c.args.self.now in
    let told = c.in-Err.ensures a.requester stands.requester in
    record {
      fault = told.fault;
      sent = told.sent;
      stands = told_stands seen _ a (command_of c.args.command) stands goes told.stands refl refl (ap (λ (o : Option CommandFault). is_none o || seen.is_waiting) told.fault);
    }
