use Rattle.std.proofs.Common.{subst}
use Rattle.link_world.specs.Configured.{IsCause}
use Rattle.link_world.specs.declared.fault.WorldFault.{WorldFault}
use Rattle.script_run.proofs.NoFault.{first_stands, has_seed, no_requester_fault, no_responder_fault}
use Rattle.script_run.proofs.life.first_world.Goals as goal

pub resume-requires-clause-seed : goal.resume-requires-clause-seed
resume-requires-clause-seed c = has_seed c.args.config.now c.requires.sound

pub unreachable-requires : goal.unreachable-requires
unreachable-requires c =
    no_responder_fault c.args.config.now c.requires.sound c.in-Err-Responder.field-0-0
    (subst (λ (f : WorldFault). IsCause c.args.config.now f) c.in-Err-Responder.field-0-is c.in-Err-Responder.ensures.fault)

pub unreachable-requires-in-Err-Requester : goal.unreachable-requires-in-Err-Requester
unreachable-requires-in-Err-Requester c =
    no_requester_fault c.args.config.now c.requires.sound c.in-Err-Requester.field-0-0
    (subst (λ (f : WorldFault). IsCause c.args.config.now f) c.in-Err-Requester.field-0-is c.in-Err-Requester.ensures.fault)

pub returns-in-Ok : goal.returns-in-Ok
returns-in-Ok c = first_stands c.args.config.now c.args.boot c.requires.sound c.in-Ok.world c.in-Ok.ensures.stands
