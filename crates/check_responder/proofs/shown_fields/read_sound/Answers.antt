use Rattle.spdm_grammar.specs.Message.{response_message}
use Rattle.check_responder.proofs.ReadLengths.{sound_short}
use Rattle.check_responder.proofs.shown_fields.read_sound.Goals as goal

pub returns-in-Ok-clause-short : goal.returns-in-Ok-clause-short
returns-in-Ok-clause-short c =
    sound_short c.args.hash_len c.args.summary (response_message c.in-Ok.response)
    (c.spelled_response_is_sound.ensures c.args.hash_len c.args.summary (response_message c.in-Ok.response) c.args.reply.now (λ i. (c.type_inv.reply i).fits) c.in-Ok.ensures.found).1
