use Rattle.std.proofs.Common.{◌∙◌, List, ap, map}
use Rattle.script_ends.proofs.Made.{responder_fault}
use Rattle.script_ends.specs.Configured.{SetsUpResponder, known_in}
use Rattle.responder.specs.SetUp as answering
use Rattle.responder.specs.declared.config.Known.{Known}
use Rattle.script_ends.proofs.responder_end.make_responder.Goals as goal

pub returns-in-Ok-resume-clause-sound : goal.returns-in-Ok-resume-clause-sound
returns-in-Ok-resume-clause-sound c =
    let eid = c.args.config.now.responder.eid.number in
    record {
      config = c.responder_config-own.result;
      sets_up = record {
        part = c.responder_config-own.ensures.part;
        known = ap (λ (l : List Known). map answering.known_of l) (c.responder_config-own.ensures.known ∙ c.as_slice-2.ensures.value)
            ∙ c.in-Ok.ensures eid
            ∙ ap (known_in eid) c.as_slice.ensures;
      };
      is = c.in-Ok-resume.ensures.sound;
    }

pub returns-clause-fault : goal.returns-clause-fault
returns-clause-fault c =
    let eid = c.args.config.now.responder.eid.number in
    let up : SetsUpResponder c.args.config.now c.responder_config-own.result = record {
      part = c.responder_config-own.ensures.part;
      known = ap (λ (l : List Known). map answering.known_of l) (c.responder_config-own.ensures.known ∙ c.as_slice-2.ensures.value)
          ∙ c.in-Ok.ensures eid
          ∙ ap (known_in eid) c.as_slice.ensures;
    } in
    responder_fault c.args.config.now c.responder_config-own.result c.in-Err.fault up c.in-Err.ensures.fault
