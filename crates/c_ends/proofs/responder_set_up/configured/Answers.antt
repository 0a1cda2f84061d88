use Rattle.std.proofs.Common.{◌∙◌, List, ap, map}
use Rattle.c_ends.proofs.Faults.{responder_fault}
use Rattle.c_ends.specs.Opening.{IsSetBy}
use Rattle.c_ends.proofs.responder_set_up.configured.Goals as goal
use Rattle.responder.specs.SetUp.{known_of}
use Rattle.responder.specs.declared.config.Known.{Known}

pub returns-in-Ok-made-clause-sound : goal.returns-in-Ok-made-clause-sound
returns-in-Ok-made-clause-sound c = record {
  config = c.config_of-own.result;
  set = c.config_of-own.ensures c.args.known.now c.args.blocks.now
      (ap (λ (l : List Known). map known_of l) c.as_slice.ensures.value ∙ c.in-Ok.ensures)
      (c.as_slice-2.ensures.value ∙ c.in-Ok-all_blocks.ensures);
  is = c.in-Ok-made.ensures.sound;
}

pub returns-clause-fault : goal.returns-clause-fault
returns-clause-fault c =
    let set : IsSetBy c.args.config.now c.args.known.now c.args.blocks.now c.config_of-own.result =
    c.config_of-own.ensures c.args.known.now c.args.blocks.now
    (ap (λ (l : List Known). map known_of l) c.as_slice.ensures.value ∙ c.in-Ok.ensures)
    (c.as_slice-2.ensures.value ∙ c.in-Ok-all_blocks.ensures) in
    responder_fault c.args.config.now c.args.known.now c.args.blocks.now c.config_of-own.result c.in-Err.fault set c.in-Err.ensures.fault
